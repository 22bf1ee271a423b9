use Rattle.marks.specs.Members.{members}
use Rattle.marks.proofs.Filtering.{FilteredSoFar}
use Rattle.marks.proofs.set.MarkSet.filter.Given as goal

abbrev pub invariant-loop-mark : goal.invariant-loop-mark
invariant-loop-mark g l =
    (goal.iterator-loop-mark g).can_next l.mark-iterator
    × (goal.iterator-loop-mark g).is_finite l.mark-iterator
    × FilteredSoFar (goal.F-post g l.keeps) (members l.fn.self) (members l.mark-iterator.rest) (members l.kept)
