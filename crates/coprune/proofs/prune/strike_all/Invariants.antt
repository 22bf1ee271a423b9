use Rattle.coprune.specs.Coprune.{Strikes, Wears, at_ends}
use Rattle.coprune.proofs.Stepping.{kind_of}
use Rattle.coprune.proofs.prune.strike_all.Given as goal

abbrev pub invariant-loop-limits : goal.invariant-loop-limits
invariant-loop-limits g l = Strikes (kind_of g.S.Sheet g.S.Strike) (Wears l.limits) l.initial.sheet l.sheet

abbrev pub decreases-loop-limits : goal.decreases-loop-limits
decreases-loop-limits g l = at_ends (g.S.Sheet.meaning l.sheet)
