-- The marks of a set that pass a test, and the tests of trimming. Assumes nothing.
use Rattle.std.specs.Prelude.{◌≡◌, ℕ, ◌<◌, ◌≤◌, true, false}
use Rattle.plex.specs.Sets.{Set, Agreement, only, ◌∪◌, ◌⊆◌}
use Rattle.ceiling.specs.Formulas.{misses}

-- d are the marks of c of which P holds
pub record Sifted (P : ℕ → Type 0) (c d : Set) : Type 0 where
  pub part : d ⊆ c
  pub passes : (v : ℕ) → d v ≡ true → P v
  pub all : (v : ℕ) → c v ≡ true → P v → d v ≡ true

-- each mark of s misses at most k marks of s and v
abbrev pub Borne : ℕ → Agreement → Set → ℕ → Type 0
Borne k agrees s v = (u : ℕ) → s u ≡ true → misses 128 agrees (s ∪ only v) u ≤ k

-- v is a mark of s, or misses fewer than k of them
abbrev pub MissesUnder : ℕ → Agreement → Set → ℕ → Type 0
MissesUnder k agrees s v = s v ≡ false → misses 128 agrees s v < k
