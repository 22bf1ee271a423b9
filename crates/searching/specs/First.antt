-- The group that is held first: marks leave one by one until those that are left are a k-plex. Assumes nothing.
use Rattle.std.specs.Prelude.{ℕ, ◌+◌, ◌<◌, ◌≤◌, min, max, Some, None}
use Rattle.plex.specs.Sets.{Set, Agreement, card, only, ◌∩◌, ◌∖◌}
use Rattle.plex.specs.Least.{Least}

-- how many marks of r agree with u
abbrev pub agreements_inside : ℕ → Agreement → Set → ℕ → ℕ
agreements_inside n agrees r u = card n (r ∩ agrees u)

-- no k-plex inside r that has the mark u has more marks than this
abbrev pub most_with : ℕ → ℕ → Agreement → Set → ℕ → ℕ
most_with n k agrees r u = min (agreements_inside n agrees r u + k) (card n r)

-- From the marks r on: the group that is held in the end, and the largest number met on the way. In each round u is the mark of r
-- with fewest agreements inside r, the lowest of those.
pub data Peels (n k : ℕ) (agrees : Agreement) : Set → Set → ℕ → Type 0 where
  -- r has no mark
  empty : {r : Set} → Least n r (agreements_inside n agrees r) None → Peels n k agrees r r 0
  -- r is a k-plex: even u agrees with all marks of r but k
  stays : {r : Set} (u : ℕ) → Least n r (agreements_inside n agrees r) (Some u) → card n r ≤ agreements_inside n agrees r u + k →
      Peels n k agrees r r (most_with n k agrees r u)
  -- it is none, and u leaves
  leaves : {r held : Set} {top : ℕ} (u : ℕ) → Least n r (agreements_inside n agrees r) (Some u) → agreements_inside n agrees r u + k < card n r →
      Peels n k agrees (r ∖ only u) held top → Peels n k agrees r held (max (most_with n k agrees r u) top)
