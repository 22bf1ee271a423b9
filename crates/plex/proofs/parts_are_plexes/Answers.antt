use Rattle.plex.proofs.Laws.{parts_are_plexes_lem}
use Rattle.plex.proofs.parts_are_plexes.Goals as goal

pub returns : goal.returns
returns c = parts_are_plexes_lem
