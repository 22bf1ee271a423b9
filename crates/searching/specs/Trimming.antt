-- What trimming leaves of a branch's candidates: the largest part in which each fits. Assumes nothing.
use Rattle.std.specs.Prelude.{◌≡◌, ℕ, ◌+◌, ◌<◌, true}
use Rattle.plex.specs.Sets.{Set, Agreement, only, ◌∪◌, ◌⊆◌, Kplex}
use Rattle.searching.specs.First.{agreements_inside}

-- Each v of c keeps s with v a k-plex, and has more than h - k agreements inside s and c. Both are needed of a mark of a k-plex that
-- has all of s and more than h marks.
abbrev pub Fits : ℕ → ℕ → Agreement → ℕ → Set → Set → Type 0
Fits n k agrees h s c = (v : ℕ) → c v ≡ true → Kplex n k agrees (s ∪ only v) × (h < k + agreements_inside n agrees (s ∪ c) v)

-- d is the largest part of c that fits
pub record Trimmed (n k : ℕ) (agrees : Agreement) (h : ℕ) (s c d : Set) : Type 0 where
  pub fits : Fits n k agrees h s d
  pub part : d ⊆ c
  pub most : (e : Set) → Fits n k agrees h s e → e ⊆ c → e ⊆ d
