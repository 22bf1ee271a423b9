-- What co-pruning promises. Assumes nothing.
use Rattle.std.specs.Prelude.{◌≡◌, ℕ, ◌<◌, ◌≤◌, List, Ok, Err, Result}
use Rattle.plex.specs.Sets.{Set}
use Rattle.plex.specs.Meaning.{Meaning}
use Rattle.pruning.specs.Pruned.{Largest, ends_needed, shared_needed, left_marks, agreements}
use Rattle.coprune.specs.declared.refusal.PruneRefusal.{PruneRefusal}
use Rattle.coprune.specs.declared.refusal.PruneRefusal.TheVariants.{KOutOfRange, TooFewMarkPlaces, TooFewPairPlaces, FloorTooHigh}

-- the number of each refusal
abbrev pub number : PruneRefusal → ℕ
number KOutOfRange = 41
number TooFewMarkPlaces = 42
number TooFewPairPlaces = 43
number FloorTooHigh = 44

-- how many places the pairs that wait want: as many as there are agreements
abbrev pub pair_places : Meaning → ℕ
pair_places m = agreements m.marks m.agrees

-- under which condition co-pruning the sheet m with k and floor f, in so many places for marks and for pairs, is refused
abbrev pub Refuses : Meaning → ℕ → ℕ → ℕ → ℕ → PruneRefusal → Type 0
Refuses m k f mark_room pair_room KOutOfRange = 1 ≤ k → k ≤ 16 → ⊥
Refuses m k f mark_room pair_room TooFewMarkPlaces = (1 ≤ k) × (k ≤ 16) × (mark_room < m.marks)
Refuses m k f mark_room pair_room TooFewPairPlaces = (1 ≤ k) × (k ≤ 16) × (m.marks ≤ mark_room) × (pair_room < pair_places m)
Refuses m k f mark_room pair_room FloorTooHigh = (1 ≤ k) × (k ≤ 16) × (m.marks ≤ mark_room) × (pair_places m ≤ pair_room) × (128 < f)

-- what remains is the largest set of agreements of the sheet in which both ends of each have at least f + 1 - k agreements and
-- share at least f + 1 - 2k marks; the marks left are those with at least f + 1 - k of them
pub record Remains (m : Meaning) (k f : ℕ) (m' : Meaning) (left : Set) : Type 0 where
  pub marks : m'.marks ≡ m.marks
  pub largest : Largest m.marks (ends_needed k f) (shared_needed k f) m.agrees m'.agrees
  pub those : left ≡ left_marks m.marks (ends_needed k f) m'.agrees

pub record Accepts (m : Meaning) (k f mark_room pair_room v : ℕ) (m' : Meaning) (left : Set) : Type 0 where
  pub low : 1 ≤ k
  pub high : k ≤ 16
  pub marks : m.marks ≤ mark_room
  pub pairs : pair_places m ≤ pair_room
  pub floor : f ≤ 128
  pub answer : v ≡ 0
  pub remains : Remains m k f m' left

abbrev pub CoPrunes : Meaning → ℕ → ℕ → ℕ → ℕ → Result ℕ PruneRefusal → Meaning → Set → Type 0
CoPrunes m k f mark_room pair_room (Ok v) m' left = Accepts m k f mark_room pair_room v m' left
CoPrunes m k f mark_room pair_room (Err e) m' left = Refuses m k f mark_room pair_room e

-- the only value that may vary: what the work space holds afterwards
abbrev pub MayHoldAnything : {T : Type 0} → List T → Type 0
MayHoldAnything places = Unit {0}
