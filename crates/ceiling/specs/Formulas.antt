-- The numbers of the degree rule and of the pair rule, among n marks. Assumes nothing.
use Rattle.std.specs.Prelude.{ℕ, ◌+◌, ◌-◌, Bool, cond, ◌&&◌, Some, None, Option, nat_le}
use Rattle.plex.specs.Sets.{Set, Agreement, card, only, ◌∩◌, ◌∪◌, ◌∖◌, is_kplex}
use Rattle.plex.specs.Least.{least}
use Rattle.ceiling.specs.Rules.{Number}

-- |S| + |C|
abbrev pub marks_of_both : ℕ → Set → Set → ℕ
marks_of_both n s c = card n s + card n c

-- how many marks of s, u counted, do not agree with u
abbrev pub misses : ℕ → Agreement → Set → ℕ → ℕ
misses n agrees s u = card n (s ∖ agrees u)

-- how many more marks u may miss
abbrev pub spare : ℕ → ℕ → Agreement → Set → ℕ → ℕ
spare n k agrees s u = k - misses n agrees s u

-- how many marks a k-plex inside s and c has at most, if u is one of them
abbrev pub degree_number : ℕ → ℕ → Agreement → Set → Set → ℕ → ℕ
degree_number n k agrees s c u = k + card n ((s ∪ c) ∩ agrees u)

-- how many it has at most if u and v are marks of s: those of s, those that u may still miss, those that v may still
-- miss, and those that agree with both
abbrev pub pair_number : ℕ → ℕ → Agreement → Set → Set → ℕ → ℕ → ℕ
pair_number n k agrees s c u v = card n s + spare n k agrees s u + spare n k agrees s v + card n (c ∩ agrees u ∩ agrees v)

-- the number of the mark that was found
abbrev pub number_at : (ℕ → ℕ) → Option ℕ → ℕ → ℕ
number_at f None other = other
number_at f (Some u) other = f u

-- the smallest f u over the marks u of s below n; another number if s has none
abbrev pub smallest : ℕ → Set → (ℕ → ℕ) → ℕ → ℕ
smallest n s f other = number_at f (least n s f) other

-- the smallest f u v over two different marks u and v of s below n; another number if s has no two
abbrev pub smallest_of_two : ℕ → Set → (ℕ → ℕ → ℕ) → ℕ → ℕ
smallest_of_two n s f other = smallest n s (λ u. smallest n (s ∖ only u) (f u) other) other

-- k is from 1 to 16
abbrev pub in_range : ℕ → Bool
in_range k = nat_le 1 k && nat_le k 16

-- the rules apply to such a k, and to an s that is a k-plex
abbrev pub applies : ℕ → ℕ → Agreement → Set → Bool
applies n k agrees s = in_range k && is_kplex n k agrees s

unfoldable pub by_degree : ℕ → Number
by_degree n k agrees s c =
    cond (applies n k agrees s) (smallest n s (degree_number n k agrees s c) (marks_of_both n s c)) (marks_of_both n s c)

unfoldable pub by_pair : ℕ → Number
by_pair n k agrees s c =
    cond (applies n k agrees s) (smallest_of_two n s (pair_number n k agrees s c) (marks_of_both n s c)) (marks_of_both n s c)
