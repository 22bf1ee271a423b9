use Rattle.plex.proofs.Laws.{lists_rise_lem}
use Rattle.plex.proofs.lists_rise.Goals as goal

pub returns : goal.returns
returns c = lists_rise_lem
