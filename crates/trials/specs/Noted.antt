-- What is noted of marks. Assumes nothing.
use Rattle.std.specs.Prelude.{◌≡◌, ℕ, ◌+◌, ◌%◌, Bool, false, not, cond, ◌&&◌, ◌||◌, ◌==◌, List, [], nat_lt, slice_index_or}

-- what the rows note of marks i and j; marks without a row or a place in it do not agree
abbrev pub noted : List (List Bool) → ℕ → ℕ → Bool
noted rows i j = slice_index_or (slice_index_or rows i []) j false

-- whether marks i and j, of n, are different, and so can be noted
abbrev pub notable : ℕ → ℕ → ℕ → Bool
notable n i j = nat_lt i n && (nat_lt j n && not (i == j))

-- the note on two different marks becomes `to`, and all other notes stay
abbrev pub Notes : ℕ → List (List Bool) → ℕ → ℕ → Bool → List (List Bool) → Type 0
Notes n rows i j to rows' =
    (p q : ℕ) → noted rows' p q ≡ cond (notable n i j && ((p == i && q == j) || (p == j && q == i))) to (noted rows p q)

-- one place of a row becomes `to`, and all others stay
abbrev pub RowNoted : List Bool → ℕ → Bool → List Bool → Type 0
RowNoted row at to row' = (q : ℕ) → slice_index_or row' q false ≡ cond (q == at) to (slice_index_or row q false)

-- whether two different marks of n are next to one another on a ring of so many
abbrev pub on_ring : ℕ → ℕ → ℕ → ℕ → Bool
on_ring n marks p q =
    notable n p q && ((nat_lt p marks && (q == (p + 1) % marks)) || (nat_lt q marks && (p == (q + 1) % marks)))
