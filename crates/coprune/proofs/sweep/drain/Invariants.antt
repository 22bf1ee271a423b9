use Rattle.coprune.specs.Coprune.{Strikes, Wears}
use Rattle.coprune.proofs.Working.{work}
use Rattle.coprune.proofs.Stepping.{kind_of}
use Rattle.coprune.proofs.sweep.drain.Given as goal

abbrev pub invariant-loop-next : goal.invariant-loop-next
invariant-loop-next g l = Strikes (kind_of g.S.Sheet g.S.Strike) (Wears l.limits) l.initial.sheet l.sheet

abbrev pub decreases-loop-next : goal.decreases-loop-next
decreases-loop-next g l = work (g.S.Sheet.meaning l.sheet) l.waiting
