use Rattle.searching.proofs.Exactness.{calls_are_exact_lem}
use Rattle.searching.proofs.calls_are_exact.Goals as goal

pub returns : goal.returns
returns c = calls_are_exact_lem
