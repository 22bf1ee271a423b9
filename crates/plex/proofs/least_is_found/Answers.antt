use Rattle.plex.proofs.Laws.{least_found}
use Rattle.plex.proofs.least_is_found.Goals as goal

pub returns : goal.returns
returns c = least_found
