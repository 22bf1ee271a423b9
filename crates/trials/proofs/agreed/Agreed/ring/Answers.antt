use Rattle.std.proofs.Common.{refl}
use Rattle.trials.proofs.Noting.{ring_more}
use Rattle.trials.proofs.agreed.Agreed.ring.Goals as goal

pub loop-i-preserved : goal.loop-i-preserved
loop-i-preserved g c = ring_more g.row.N c.args.marks c.loop-i.i _ _ _ refl c.set.ensures c.loop-i.invariant
