use Rattle.std.proofs.Common.{◌≡◌}
use Rattle.plex.specs.Sets.{◌∪◌}
use Rattle.marks.specs.Members.{members}
use Rattle.branch.specs.Opened.{agreed}
use Rattle.branch.proofs.Sweeps.{Sweeping}
use Rattle.branch.proofs.opened.Opened.swept.Given as goal

abbrev pub invariant-loop-v : goal.invariant-loop-v
invariant-loop-v l =
    (goal.iterator-loop-v).can_next l.v-iterator
    × (goal.iterator-loop-v).is_finite l.v-iterator
    × (members l.all ≡ members l.self.chosen ∪ members l.fitting)
    × Sweeping l.few (agreed l.self) (members l.self.chosen) (members l.self.candidates) (members l.v-iterator.rest) (members l.fitting)
