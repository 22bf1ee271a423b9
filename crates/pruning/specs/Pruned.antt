-- What co-pruning leaves: the largest set of agreements in which both ends of each have enough agreements and share
-- enough marks. Assumes nothing.
use Rattle.std.specs.Prelude.{◌≡◌, ℕ, zero, suc, ◌+◌, ◌-◌, ◌*◌, ◌<◌, ◌≤◌, Bool, true, ◌&&◌, ◌||◌, ◌⊎◌, nat_le, nat_lt}
use Rattle.plex.specs.Sets.{Set, Agreement, TwoWay, ◌⊑◌, card, below, ◌∩◌, ◌∖◌}

-- both ends of each agreement have at least a agreements, and share at least b marks that agree with both
pub record Good (n a b : ℕ) (g : Agreement) : Type 0 where
  pub both : TwoWay g
  pub ends : (i j : ℕ) → g i j ≡ true → a ≤ card n (g i)
  pub share : (i j : ℕ) → g i j ≡ true → b ≤ card n (g i ∩ g j)

-- g is the largest good set of agreements of r
pub record Largest (n a b : ℕ) (r g : Agreement) : Type 0 where
  pub good : Good n a b g
  pub part : g ⊑ r
  pub most : (h : Agreement) → Good n a b h → h ⊑ r → h ⊑ g

-- how many agreements each end needs, and how many marks they must share, for a k-plex of more than f marks
abbrev pub ends_needed : ℕ → ℕ → ℕ
ends_needed k f = f + 1 - k

abbrev pub shared_needed : ℕ → ℕ → ℕ
shared_needed k f = f + 1 - 2 * k

-- the marks that are left: those below n with at least a agreements
abbrev pub left_marks : ℕ → ℕ → Agreement → Set
left_marks n a g i = nat_lt i n && nat_le a (card n (g i))

-- an agreement of g that no good part of g has
abbrev pub Offends : ℕ → ℕ → ℕ → Agreement → ℕ → ℕ → Type 0
Offends n a b g i j = (card n (g i) < a) ⊎ ((card n (g j) < a) ⊎ (card n (g i ∩ g j) < b))

-- the same as a test
abbrev pub offends : ℕ → ℕ → ℕ → Agreement → ℕ → ℕ → Bool
offends n a b g i j = nat_lt (card n (g i)) a || (nat_lt (card n (g j)) a || nat_lt (card n (g i ∩ g j)) b)

-- g is what is left of r after some agreements were struck, and none of a good set was
pub record Kept (n a b : ℕ) (r g : Agreement) : Type 0 where
  pub part : g ⊑ r
  pub most : (h : Agreement) → Good n a b h → h ⊑ r → h ⊑ g

-- the agreements of r between marks of s
abbrev pub between : Agreement → Set → Agreement
between r s i j = r i j && (s i && s j)

abbrev pub either : Agreement → Agreement → Agreement
either g h i j = g i j || h i j

unfoldable pub sum_to : ℕ → (ℕ → ℕ) → ℕ
sum_to zero f = 0
sum_to (suc n) f = f n + sum_to n f

-- how many agreements there are among n marks: each counts once, at its lower mark
abbrev pub agreements : ℕ → Agreement → ℕ
agreements n g = sum_to n (λ i. card n (g i ∖ below (i + 1)))

-- how many there are if each counts at both of its marks
abbrev pub agreements_at_ends : ℕ → Agreement → ℕ
agreements_at_ends n g = sum_to n (λ i. card n (g i))
