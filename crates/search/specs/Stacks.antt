-- The open branches as they stand in a table, the newest last, and what holds of them. Each test is false in every search. Assumes nothing.
use Rattle.std.specs.Prelude.{ℕ, ◌+◌, Bool, not, ◌&&◌, ◌||◌, List, [], nat_le, nat_lt, slice_index_or}
use Rattle.plex.specs.Sets.{Set, card, is_kplex}
use Rattle.plex.specs.Words.{holds}
use Rattle.tables.specs.Bits.{bit_agrees}
use Rattle.branch.specs.declared.branches.Branch.{Branch}

-- what stands past the end of the table
abbrev pub no_branch : Branch
no_branch = record { chosen = []; candidates = [] }

abbrev pub chosen_at : List Branch → ℕ → Set
chosen_at bs j = holds (slice_index_or bs j no_branch).chosen

abbrev pub candidates_at : List Branch → ℕ → Set
candidates_at bs j = holds (slice_index_or bs j no_branch).candidates

-- a chosen mark i of branch j that is no mark of the sheet
unfoldable pub chosen_outside : List Branch → ℕ → ℕ → ℕ → ℕ → Bool
chosen_outside bs count n j i = nat_lt j count && (nat_le n i && chosen_at bs j i)

-- likewise a candidate
unfoldable pub candidate_outside : List Branch → ℕ → ℕ → ℕ → ℕ → Bool
candidate_outside bs count n j i = nat_lt j count && (nat_le n i && candidates_at bs j i)

-- a mark that is chosen and a candidate
unfoldable pub in_both : List Branch → ℕ → ℕ → ℕ → Bool
in_both bs count j i = nat_lt j count && (candidates_at bs j i && chosen_at bs j i)

-- the chosen marks of branch j are no k-plex, and more than the group held
unfoldable pub too_large : List Branch → ℕ → ℕ → ℕ → List (List ℕ) → List ℕ → ℕ → Bool
too_large bs count n k rows group j =
    nat_lt j count && not (is_kplex n k (bit_agrees rows) (chosen_at bs j) || nat_le (card n (chosen_at bs j)) (card n (holds group)))

-- branch j, which is not the newest, has all marks as candidates, or fewer than the one above it, or only as many, and
-- that one is not the newest
unfoldable pub out_of_order : List Branch → ℕ → ℕ → ℕ → Bool
out_of_order bs count n j =
    nat_lt (j + 1) count && (nat_le n (card n (candidates_at bs j)) || (nat_lt (card n (candidates_at bs j)) (card n (candidates_at bs (j + 1)))
    || (nat_lt (j + 2) count && nat_le (card n (candidates_at bs j)) (card n (candidates_at bs (j + 1))))))

-- a mark i of the group that is no mark of the sheet
unfoldable pub held_outside : ℕ → List ℕ → ℕ → Bool
held_outside n group i = nat_le n i && holds group i
