-- The pairs before this one are drawn.
use Rattle.std.proofs.Common.{◌≡◌, ℕ, ◌+◌, ◌-◌}
use Rattle.trials.specs.Noted.{noted}
use Rattle.trials.specs.Drawn.{drawn, draws_below}
use Rattle.trials.proofs.Drawing.{drawn_to}
use Rattle.trials.proofs.agreed.Agreed.by_chance.Given as goal

abbrev pub invariant-loop-i : goal.invariant-loop-i
invariant-loop-i g l =
    (l.chance.state ≡ drawn (draws_below l.marks l.i) l.fn.chance.state)
    × ((p q : ℕ) → noted l.agreed.agrees p q ≡ drawn_to g.row.N l.marks l.tenths l.fn.chance.state l.i 0 p q)

abbrev pub invariant-loop-j : goal.invariant-loop-j
invariant-loop-j g l =
    (l.chance.state ≡ drawn (draws_below l.marks l.i + (l.j - l.i)) l.fn.chance.state)
    × ((p q : ℕ) → noted l.agreed.agrees p q ≡ drawn_to g.row.N l.marks l.tenths l.fn.chance.state l.i l.j p q)
