-- Counting agreements mark by mark.
use Rattle.std.proofs.Common.{◌≡◌, ℕ, ◌+◌, ◌*◌, ◌≤◌, refl, ap, ◌∙◌, add-one, arith}
use Rattle.plex.specs.Sets.{Set, card, only, below, ◌∪◌, ◌∖◌}
use Rattle.plex.specs.Meaning.{Meaning}
use Rattle.plex.proofs.Below.{one_more_below}
use Rattle.plex.proofs.Count.{card_le}
use Rattle.pruning.specs.Pruned.{sum_to}
use Rattle.pruning.proofs.Rounds.{sum_le}

pub sum_none : (f : ℕ → ℕ) → sum_to 0 f ≡ 0
unfolding sum_to
sum_none f = refl

pub sum_more : (i : ℕ) (f : ℕ → ℕ) → sum_to (i + 1) f ≡ f i + sum_to i f
unfolding sum_to
sum_more i f = rw add-one refl

-- how many marks above mark i agree with it
abbrev pub higher : Meaning → ℕ → ℕ
higher m i = card m.marks (m.agrees i ∖ below (i + 1))

-- so there are no more agreements than marks times 128, at the marks below i
pub higher_fit : (m : Meaning) (i : ℕ) → sum_to i (higher m) ≤ i * 128
higher_fit m i = sum_le i 128 (higher m) (λ j. omega (arith, card_le m.marks (m.agrees j ∖ below (j + 1)), m.few))

-- the marks seen so far, with one more
pub seen_more : (i : ℕ) (s s' : Set) → s ≡ below i → s' ≡ s ∪ only i → s' ≡ below (i + 1)
seen_more i s s' e f = f ∙ ap (λ t. t ∪ only i) e ∙ one_more_below i
