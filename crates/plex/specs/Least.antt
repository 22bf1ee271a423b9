-- The mark of a set whose number is least. Assumes nothing.
use Rattle.std.specs.Prelude.{◌≡◌, ℕ, zero, suc, ◌<◌, ◌≤◌, Bool, true, false, cond, Some, None, Option, nat_lt}
use Rattle.plex.specs.Sets.{Set}

-- the mark of s below n whose number f is least, the lowest of those; none if s has no mark below n
abbrev pub Least : ℕ → Set → (ℕ → ℕ) → Option ℕ → Type 0
Least n s f None = (i : ℕ) → i < n → s i ≡ false
Least n s f (Some u) = (u < n) × (s u ≡ true) × ((i : ℕ) → i < n → s i ≡ true → f u ≤ f i) × ((i : ℕ) → i < u → s i ≡ true → f u < f i)

-- u is taken if it is in the set and no mark was found so far, or its number is smaller
abbrev pub choose : Bool → Option ℕ → ℕ → (ℕ → ℕ) → Option ℕ
choose false found u f = found
choose true None u f = Some u
choose true (Some b) u f = cond (nat_lt (f u) (f b)) (Some u) (Some b)

-- that mark, found by going through the marks
unfoldable pub least : ℕ → Set → (ℕ → ℕ) → Option ℕ
least zero s f = None
least (suc n) s f = choose (s n) (least n s f) n f
