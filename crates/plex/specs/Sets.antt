-- Sets of marks, how many marks are in one, agreement between marks, and the k-plex. Assumes nothing.
use Rattle.std.specs.Prelude.{◌≡◌, ℕ, zero, suc, ◌+◌, ◌<◌, ◌≤◌, Bool, true, false, not, ◌&&◌, ◌||◌, List, [], ◌∷◌, ◌++◌, ◌==◌, nat_le, nat_lt}

-- a set of marks is the test that its marks pass
abbrev pub Set : Type 0
Set = ℕ → Bool

-- which two marks agree
abbrev pub Agreement : Type 0
Agreement = ℕ → ℕ → Bool

-- agreement goes both ways
abbrev pub TwoWay : Agreement → Type 0
TwoWay agrees = (i j : ℕ) → agrees i j ≡ true → agrees j i ≡ true

-- no mark agrees with itself
abbrev pub NoSelf : Agreement → Type 0
NoSelf agrees = (i : ℕ) → agrees i i ≡ false

-- only marks below n agree
abbrev pub Among : ℕ → Agreement → Type 0
Among n agrees = (i j : ℕ) → agrees i j ≡ true → (i < n) × (j < n)

-- the agreements of g are agreements of r
infix 30 ◌⊑◌
abbrev pub ◌⊑◌ : Agreement → Agreement → Type 0
g ⊑ r = (i j : ℕ) → g i j ≡ true → r i j ≡ true

abbrev pub one_if : Bool → ℕ
one_if true = 1
one_if false = 0

-- how many marks below n are in s
unfoldable pub card : ℕ → Set → ℕ
card zero s = 0
card (suc n) s = one_if (s n) + card n s

infixl 40 ◌∩◌
infixl 40 ◌∖◌
infixl 35 ◌∪◌
infix 30 ◌⊆◌
abbrev pub ◌∩◌ : Set → Set → Set
◌∩◌ s t i = s i && t i

abbrev pub ◌∪◌ : Set → Set → Set
◌∪◌ s t i = s i || t i

-- s without the marks of t
abbrev pub ◌∖◌ : Set → Set → Set
◌∖◌ s t i = s i && not (t i)

abbrev pub none : Set
none i = false

-- the mark u and no other
abbrev pub only : ℕ → Set
only u i = i == u

-- the marks 0 to n - 1
abbrev pub below : ℕ → Set
below n i = nat_lt i n

-- i and j are the pair u and v, in either order
abbrev pub is_pair : ℕ → ℕ → Agreement
is_pair u v i j = (i == u && j == v) || (i == v && j == u)

-- an agreement without that of u and v
abbrev pub struck : ℕ → ℕ → Agreement → Agreement
struck u v agrees i j = agrees i j && not (is_pair u v i j)

abbrev pub ◌⊆◌ : Set → Set → Type 0
s ⊆ t = (i : ℕ) → s i ≡ true → t i ≡ true

-- Seidman and Foster's k-plex among n marks: each of its marks agrees with at least as many of its marks as it has, less k.
-- A mark does not agree with itself, so it is itself one of the k that it may miss.
abbrev pub Kplex : ℕ → ℕ → Agreement → Set → Type 0
Kplex n k agrees s = (i : ℕ) → s i ≡ true → (i < n) × (card n s ≤ k + card n (s ∩ agrees i))

-- all marks of s are below n
abbrev pub Within : ℕ → Set → Type 0
Within n s = (i : ℕ) → s i ≡ true → i < n

-- every number below n passes the test
unfoldable pub all_below : ℕ → Set → Bool
all_below zero s = true
all_below (suc n) s = s n && all_below n s

-- whether a set of marks below n is a k-plex
abbrev pub is_kplex : ℕ → ℕ → Agreement → Set → Bool
is_kplex n k agrees s = all_below n (λ i. not (s i) || nat_le (card n s) (k + card n (s ∩ agrees i)))

abbrev pub if_in : Bool → ℕ → List ℕ
if_in true i = i ∷ []
if_in false i = []

-- the marks of s below n, rising
unfoldable pub rising : ℕ → Set → List ℕ
rising zero s = []
rising (suc n) s = rising n s ++ if_in (s n) n

-- the marks of a list
abbrev pub among : List ℕ → Set
among [] i = false
among (x ∷ xs) i = i == x || among xs i
