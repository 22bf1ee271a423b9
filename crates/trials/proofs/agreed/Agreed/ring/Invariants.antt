-- The marks before this one agree with their next.
use Rattle.std.proofs.Common.{◌≡◌, ℕ}
use Rattle.trials.specs.Noted.{noted}
use Rattle.trials.proofs.Noting.{ring_to}
use Rattle.trials.proofs.agreed.Agreed.ring.Given as goal

abbrev pub invariant-loop-i : goal.invariant-loop-i
invariant-loop-i g l = (p q : ℕ) → noted l.ring.agrees p q ≡ ring_to g.row.N l.marks l.i p q
