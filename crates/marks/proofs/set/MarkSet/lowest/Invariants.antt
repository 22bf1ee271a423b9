use Rattle.marks.proofs.First.{Zeros}
use Rattle.marks.proofs.set.MarkSet.lowest.Given as goal

abbrev pub invariant-loop-at : goal.invariant-loop-at
invariant-loop-at l = Zeros l.word-items l.at
