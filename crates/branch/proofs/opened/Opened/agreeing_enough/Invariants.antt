use Rattle.marks.specs.Members.{members}
use Rattle.branch.specs.Opened.{agreed}
use Rattle.branch.proofs.Sweeps.{Rounds}
use Rattle.branch.proofs.opened.Opened.agreeing_enough.Given as goal

abbrev pub invariant-loop-next : goal.invariant-loop-next
invariant-loop-next l = Rounds l.few (agreed l.self) (members l.self.chosen) (members l.self.candidates) (members l.fitting)

abbrev pub decreases-loop-next : goal.decreases-loop-next
decreases-loop-next l = l.fitting.count
