use Rattle.plex.proofs.Laws.{words_combine_lem}
use Rattle.plex.proofs.words_combine.Goals as goal

pub returns : goal.returns
returns c = words_combine_lem
