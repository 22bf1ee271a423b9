-- The marks that came stand in the first places, and with those to come they are the marks of the set.
use Rattle.std.proofs.Common.{◌≡◌, ◌≤◌, ◌++◌, length, take}
use Rattle.plex.specs.Sets.{rising}
use Rattle.marks.specs.Members.{members}
use Rattle.marks.specs.Rising.{to_come}
use Rattle.held.proofs.group.Held.of.Given as goal

abbrev pub invariant-loop-place : goal.invariant-loop-place
invariant-loop-place l =
    (goal.iterator-loop-place).can_next l.place-iterator
    × (goal.iterator-loop-place).is_finite l.place-iterator
    × (length l.marks ≡ 128)
    × (l.place-iterator.count ≤ 128)
    × (take l.place-iterator.count l.marks ++ to_come l.place-iterator.iter ≡ rising 128 (members l.set))
