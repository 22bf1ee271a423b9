use Rattle.plex.proofs.Laws.{words_hold_sets_lem}
use Rattle.plex.proofs.words_hold_sets.Goals as goal

pub returns : goal.returns
returns c = words_hold_sets_lem
