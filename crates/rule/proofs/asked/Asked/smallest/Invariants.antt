use Rattle.plex.specs.Sets.{◌⊆◌}
use Rattle.marks.specs.Members.{members}
use Rattle.rule.specs.Passes.{nothing_yet}
use Rattle.rule.specs.Rooms.{number_of_two}
use Rattle.rule.proofs.Pairs.{LowestOfTwo}
use Rattle.rule.proofs.asked.Asked.smallest.Given as goal

abbrev pub invariant-loop-u : goal.invariant-loop-u
invariant-loop-u l =
    (members l.later.rest ⊆ members l.self.chosen)
    × LowestOfTwo (members l.self.chosen) (members l.later.rest) (number_of_two l.self) nothing_yet l.smallest

abbrev pub decreases-loop-u : goal.decreases-loop-u
decreases-loop-u l = l.later.rest.count
