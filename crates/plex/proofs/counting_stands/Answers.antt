use Rattle.plex.proofs.Laws.{counting}
use Rattle.plex.proofs.counting_stands.Goals as goal

pub returns : goal.returns
returns c = counting
