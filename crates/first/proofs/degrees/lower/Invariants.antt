use Rattle.std.proofs.Common.{◌≡◌, length}
use Rattle.plex.specs.Sets.{◌∖◌, ◌⊆◌}
use Rattle.marks.specs.Members.{members}
use Rattle.first.specs.Degrees.{OneLess}
use Rattle.first.proofs.degrees.lower.Given as goal

abbrev pub invariant-loop-v : goal.invariant-loop-v
invariant-loop-v l =
    (goal.iterator-loop-v).can_next l.v-iterator
    × (goal.iterator-loop-v).is_finite l.v-iterator
    × (members l.v-iterator.rest ⊆ members l.fn.marks)
    × (length l.degrees ≡ 128)
    × OneLess l.initial.degrees (members l.fn.marks ∖ members l.v-iterator.rest) l.degrees
