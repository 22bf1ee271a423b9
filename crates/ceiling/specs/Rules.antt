-- Ceiling rules: what one means, and the law that each must keep. Assumes nothing.
use Rattle.std.specs.Prelude.{ℕ, ◌≤◌, min}
use Rattle.plex.specs.Sets.{Set, Agreement, TwoWay, NoSelf, card, ◌∪◌, ◌∖◌, ◌⊆◌, Kplex, Within}

-- a number for each k, agreement, set S and set C
abbrev pub Number : Type 0
Number = ℕ → Agreement → Set → Set → ℕ

-- what a rule replies: C is read without the marks of S
abbrev pub reply : Number → Number
reply number k agrees s c = number k agrees s (c ∖ s)

-- p contains s, and lies in s and c together
abbrev pub Between : Set → Set → Set → Type 0
Between s c p = (s ⊆ p) × (p ⊆ s ∪ c)

-- What every rule owes. A k-plex has only marks below 128 here, so S has no others either.
pub record Lawful (number : Number) : Type 0 where
  -- if S is a k-plex, every k-plex that contains S and lies in S ∪ C has at most that many marks
  pub above : (k : ℕ) (agrees : Agreement) (s c : Set) → TwoWay agrees → NoSelf agrees → Within 128 c → Kplex 128 k agrees s →
      (p : Set) → Kplex 128 k agrees p → Between s c p → card 128 p ≤ reply number k agrees s c

-- the smaller of two rules' numbers
abbrev pub smaller : Number → Number → Number
smaller first second k agrees s c = min (first k agrees s c) (second k agrees s c)
