use Rattle.searching.proofs.Theorems.{few_branches}
use Rattle.searching.proofs.branches_are_few.Goals as goal

pub returns : goal.returns
returns c = few_branches
