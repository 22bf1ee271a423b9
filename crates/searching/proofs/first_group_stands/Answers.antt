use Rattle.searching.proofs.Theorems.{first_group}
use Rattle.searching.proofs.first_group_stands.Goals as goal

pub returns : goal.returns
returns c = first_group
