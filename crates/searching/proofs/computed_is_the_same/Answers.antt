use Rattle.searching.proofs.Theorems.{computed_is_the_same_lem}
use Rattle.searching.proofs.computed_is_the_same.Goals as goal

pub returns : goal.returns
returns c = computed_is_the_same_lem
