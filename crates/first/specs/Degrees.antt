-- A table of degrees: how many marks of a set agree with each of its marks. Assumes nothing.
use Rattle.std.specs.Prelude.{◌≡◌, ℕ, ◌-◌, true, List, slice_index}
use Rattle.plex.specs.Sets.{Set, Agreement, one_if, card, ◌∩◌}

-- what the table has for the mark u
abbrev pub degree : List ℕ → ℕ → ℕ
degree degrees u = slice_index degrees u

-- the table has the degree of each mark of r
abbrev pub HasDegrees : Agreement → Set → List ℕ → Type 0
HasDegrees agrees r degrees = (u : ℕ) → r u ≡ true → degree degrees u ≡ card 128 (r ∩ agrees u)

-- the degrees of the marks of s are one less than before, and the others stay
abbrev pub OneLess : List ℕ → Set → List ℕ → Type 0
OneLess before s after = (u : ℕ) → degree after u ≡ degree before u - one_if (s u)
