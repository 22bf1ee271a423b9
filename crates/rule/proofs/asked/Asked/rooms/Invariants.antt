use Rattle.std.proofs.Common.{◌≡◌, length, slice_get}
use Rattle.plex.specs.Sets.{◌⊆◌}
use Rattle.marks.specs.Members.{members}
use Rattle.rule.specs.Questions.{agreed}
use Rattle.rule.specs.Rooms.{IsRoom}
use Rattle.rule.proofs.Passing.{Passed}
use Rattle.rule.proofs.Plexes.{MissesFew}
use Rattle.rule.proofs.asked.Asked.rooms.Given as goal

abbrev pub invariant-loop-u : goal.invariant-loop-u
invariant-loop-u l =
    (goal.iterator-loop-u).can_next l.u-iterator
    × (goal.iterator-loop-u).is_finite l.u-iterator
    × (members l.u-iterator.rest ⊆ members l.self.chosen)
    × (length l.rooms ≡ 128)
    × Passed (MissesFew l.self.k (agreed l.self) (members l.self.chosen)) (members l.self.chosen) (members l.u-iterator.rest)
    × Passed (λ u. IsRoom l.self u (slice_get l.rooms u)) (members l.self.chosen) (members l.u-iterator.rest)
