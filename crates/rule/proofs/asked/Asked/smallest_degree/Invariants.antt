use Rattle.std.proofs.Common.{ℕ, ◌+◌}
use Rattle.plex.specs.Sets.{Set, Agreement, card, ◌∩◌, ◌⊆◌}
use Rattle.marks.specs.Members.{members}
use Rattle.rule.specs.Passes.{nothing_yet}
use Rattle.rule.specs.Questions.{agreed}
use Rattle.rule.proofs.Passing.{Passed, LowestSoFar}
use Rattle.rule.proofs.Plexes.{MissesFew}
use Rattle.rule.proofs.asked.Asked.smallest_degree.Given as goal

-- the number of a mark, all chosen marks and candidates being given
abbrev pub number_in : ℕ → Agreement → Set → ℕ → ℕ
number_in k agrees all u = k + card 128 (all ∩ agrees u)

abbrev pub invariant-loop-u : goal.invariant-loop-u
invariant-loop-u l =
    (goal.iterator-loop-u).can_next l.u-iterator
    × (goal.iterator-loop-u).is_finite l.u-iterator
    × (members l.u-iterator.rest ⊆ members l.self.chosen)
    × Passed (MissesFew l.self.k (agreed l.self) (members l.self.chosen)) (members l.self.chosen) (members l.u-iterator.rest)
    × LowestSoFar (members l.self.chosen) (members l.u-iterator.rest) (number_in l.self.k (agreed l.self) (members l.all)) nothing_yet l.smallest
