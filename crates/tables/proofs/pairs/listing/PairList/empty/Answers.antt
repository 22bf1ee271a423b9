use Rattle.std.proofs.Common.{arith}
use Rattle.tables.proofs.Places.{blank_zeros}
use Rattle.tables.proofs.pairs.listing.PairList.empty.Goals as goal

pub invariant_of-result : goal.invariant_of-result
invariant_of-result c = record { room = omega arith; blank = blank_zeros 4096 0 }
