use Rattle.std.proofs.Common.{◌≡◌}
use Rattle.plex.specs.Sets.{below}
use Rattle.marks.specs.Members.{members}
use Rattle.marks.proofs.set.MarkSet.below.Given as goal

abbrev pub invariant-loop-mark : goal.invariant-loop-mark
invariant-loop-mark l = members l.set ≡ below l.mark
