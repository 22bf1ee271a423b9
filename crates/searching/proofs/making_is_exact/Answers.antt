use Rattle.searching.proofs.Made.{making_is_exact_lem}
use Rattle.searching.proofs.making_is_exact.Goals as goal

pub returns : goal.returns
returns c = making_is_exact_lem
