-- The laws of sets, words and k-plexes, each proved where a contract names it. Assumes nothing.
use Rattle.std.specs.Prelude.{◌≡◌, ℕ, ◌+◌, ◌-◌, ◌*◌, ◌/◌, ◌%◌, ◌^◌, ◌<◌, true, false, not, ◌&&◌, ◌||◌, List, length, Decides, Option, bit_and, bit_or, slice_index, slice_set}
use Rattle.plex.specs.Sets.{Set, Agreement, card, ◌∩◌, ◌∪◌, ◌∖◌, only, ◌⊆◌, Kplex, Within, is_kplex, rising}
use Rattle.plex.specs.Least.{Least, least}
use Rattle.plex.specs.Words.{bits_of, holds, ones_in, Words, words_of}
use Rattle.plex.specs.Distance.{Sighting, sighted_alike}

-- every part of a k-plex is a k-plex
abbrev pub PartsArePlexes : Type 0
PartsArePlexes =
    (n k : ℕ) (agrees : Agreement) (part whole : Set) → part ⊆ whole → Kplex n k agrees whole → Kplex n k agrees part

-- the test for a k-plex passes just the k-plexes, among sets of marks below n
abbrev pub TestFindsPlexes : Type 0
TestFindsPlexes = (n k : ℕ) (agrees : Agreement) (s : Set) → Within n s → Decides (is_kplex n k agrees s) (Kplex n k agrees s)

-- the mark of a set whose number is least, the lowest of those, is found, and there is no other
pub record LeastFound : Type 0 where
  pub found : (n : ℕ) (s : Set) (f : ℕ → ℕ) → Least n s f (least n s f)
  pub unique : (n : ℕ) (s : Set) (f : ℕ → ℕ) (o o' : Option ℕ) → Least n s f o → Least n s f o' → o ≡ o'

-- counting: what two sets share is counted twice; a mark that joins counts one
pub record Counting : Type 0 where
  pub both : (n : ℕ) (s t : Set) → card n (s ∪ t) + card n (s ∩ t) ≡ card n s + card n t
  pub split : (n : ℕ) (s t : Set) → card n s ≡ card n (s ∩ t) + card n (s ∖ t)
  pub joins : (n : ℕ) (s : Set) (u : ℕ) → u < n → s u ≡ false → card n (s ∪ only u) ≡ 1 + card n s
  pub empty : (n : ℕ) (s : Set) → ((i : ℕ) → i < n → s i ≡ false) → card n s ≡ 0

-- words are determined by the marks that they hold, every set has its words, and the marks are as many as the ones
pub record WordsHoldSets : Type 0 where
  pub same : (us vs : List ℕ) → length us ≡ length vs → Words us → Words vs → ((i : ℕ) → holds us i ≡ holds vs i) → us ≡ vs
  pub words : (m : ℕ) (s : Set) → Words (words_of m s)
  pub kept : (m : ℕ) (s : Set) (i : ℕ) → i < m * 32 → holds (words_of m s) i ≡ s i
  pub ones : (ws : List ℕ) → Words ws → card (length ws * 32) (holds ws) ≡ ones_in ws

-- what and, or and not do to the bits of words, and what setting or clearing a bit does to the marks
pub record WordsCombine : Type 0 where
  pub both : (v w b : ℕ) → bits_of (bit_and v w) b ≡ (bits_of v b && bits_of w b)
  pub either : (v w b : ℕ) → bits_of (bit_or v w) b ≡ (bits_of v b || bits_of w b)
  pub flipped : (w b : ℕ) → w < 2 ^ 32 → b < 32 → bits_of (2 ^ 32 - 1 - w) b ≡ not (bits_of w b)
  pub joined : (ws : List ℕ) (i : ℕ) → i / 32 < length ws → (j : ℕ) →
      holds (slice_set ws (i / 32) (bit_or (slice_index ws (i / 32)) (2 ^ (i % 32)))) j ≡ (holds ws ∪ only i) j
  pub removed : (ws : List ℕ) (i : ℕ) → i / 32 < length ws → (j : ℕ) →
      holds (slice_set ws (i / 32) (bit_and (slice_index ws (i / 32)) (2 ^ 32 - 1 - 2 ^ (i % 32)))) j ≡ (holds ws ∖ only i) j

-- the rising list of a set has its marks below n, all of them, each once, and rises
pub record Rises : Type 0 where
  pub long : (n : ℕ) (s : Set) → length (rising n s) ≡ card n s
  pub within : (n : ℕ) (s : Set) (p : ℕ) → p < length (rising n s) → (slice_index (rising n s) p < n) × (s (slice_index (rising n s) p) ≡ true)
  pub all : (n : ℕ) (s : Set) (i : ℕ) → i < n → s i ≡ true → (p : ℕ) × (p < length (rising n s)) × (slice_index (rising n s) p ≡ i)
  pub rises : (n : ℕ) (s : Set) (p q : ℕ) → p < q → q < length (rising n s) → slice_index (rising n s) p < slice_index (rising n s) q

-- which of two measured marks is named first makes no difference
abbrev pub SightedBothWays : Type 0
SightedBothWays = (tolerance : ℕ) (u v : Sighting) → sighted_alike tolerance u v ≡ sighted_alike tolerance v u
