use Rattle.searching.proofs.Examples.{worked_examples_lem}
use Rattle.searching.proofs.worked_examples.Goals as goal

pub returns : goal.returns
returns c = worked_examples_lem
