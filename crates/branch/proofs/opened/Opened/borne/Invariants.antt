use Rattle.plex.specs.Sets.{◌⊆◌}
use Rattle.marks.specs.Members.{members}
use Rattle.branch.specs.Opened.{agreed}
use Rattle.branch.proofs.Bearing.{Bearing}
use Rattle.branch.proofs.opened.Opened.borne.Given as goal

abbrev pub invariant-loop-u : goal.invariant-loop-u
invariant-loop-u l =
    (goal.iterator-loop-u).can_next l.u-iterator
    × (goal.iterator-loop-u).is_finite l.u-iterator
    × (members l.u-iterator.rest ⊆ members l.self.chosen)
    × Bearing l.self.k (agreed l.self) (members l.self.chosen) (members l.self.candidates) (members l.u-iterator.rest) (members l.fitting)
