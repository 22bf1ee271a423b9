-- The rows of a sheet lie within its marks, so they are counted as well over 128 as over its marks.
use Rattle.std.proofs.Common.{◌≡◌, ℕ, ◌<◌, true, ◌∙◌, inl, inr}
use Rattle.std.proofs.lemmas.Bool.{cases_lt, both_ways, and_parts}
use Rattle.plex.specs.Sets.{Set, card, ◌∩◌, ◌∖◌, ◌⊆◌, Among, TwoWay}
use Rattle.plex.specs.Meaning.{Meaning}
use Rattle.plex.proofs.Count.{card_beyond}

pub first_within : (m : Meaning) (i j : ℕ) → m.agrees i j ≡ true → i < m.marks
first_within m i j t =
    elim (cases_lt i m.marks) [ inl h ↦ h | inr h ↦ absurd (both_ways (m.agrees i j) (m.inside i j h) t) ]

pub row_within : (m : Meaning) (i j : ℕ) → m.agrees i j ≡ true → j < m.marks
row_within m i j t = first_within m j i (m.symmetric j i ∙ t)

pub among : (m : Meaning) → Among m.marks m.agrees
among m i j t = (first_within m i j t, row_within m i j t)

pub two_way : (m : Meaning) → TwoWay m.agrees
two_way m i j t = m.symmetric j i ∙ t

-- a part of a row
pub part_count : (m : Meaning) (i : ℕ) (s : Set) → s ⊆ m.agrees i → card 128 s ≡ card m.marks s
part_count m i s h = card_beyond m.marks 128 s (λ j t. row_within m i j (h j t)) m.few

pub row_count : (m : Meaning) (i : ℕ) → card 128 (m.agrees i) ≡ card m.marks (m.agrees i)
row_count m i = part_count m i (m.agrees i) (λ j t. t)

pub shared_count : (m : Meaning) (i j : ℕ) → card 128 (m.agrees i ∩ m.agrees j) ≡ card m.marks (m.agrees i ∩ m.agrees j)
shared_count m i j = part_count m i (m.agrees i ∩ m.agrees j) (λ p t. (and_parts (m.agrees i p) _ t).0)

pub minus_count : (m : Meaning) (i : ℕ) (s : Set) → card 128 (m.agrees i ∖ s) ≡ card m.marks (m.agrees i ∖ s)
minus_count m i s = part_count m i (m.agrees i ∖ s) (λ p t. (and_parts (m.agrees i p) _ t).0)
