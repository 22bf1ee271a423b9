use Rattle.plex.specs.Sets.{◌⊆◌}
use Rattle.marks.specs.Members.{members}
use Rattle.rule.specs.Rooms.{number_of_two}
use Rattle.rule.proofs.Passing.{LowestSoFar}
use Rattle.rule.proofs.asked.Asked.lowered.Given as goal

abbrev pub invariant-loop-v : goal.invariant-loop-v
invariant-loop-v l =
    (goal.iterator-loop-v).can_next l.v-iterator
    × (goal.iterator-loop-v).is_finite l.v-iterator
    × (members l.v-iterator.rest ⊆ members l.fn.partners.rest)
    × LowestSoFar (members l.fn.partners.rest) (members l.v-iterator.rest) (number_of_two l.self l.u) l.start l.smallest
