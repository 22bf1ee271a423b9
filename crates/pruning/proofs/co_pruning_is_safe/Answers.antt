use Rattle.pruning.proofs.Laws.{co_pruning}
use Rattle.pruning.proofs.co_pruning_is_safe.Goals as goal

pub returns : goal.returns
returns c = co_pruning
