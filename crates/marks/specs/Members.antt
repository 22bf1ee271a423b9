-- What a mark set means. Assumes nothing.
use Rattle.std.specs.Prelude.{◌≡◌, ℕ, ◌<◌, Bool, true, false, Some, None, Option}
use Rattle.plex.specs.Sets.{Set, none}
use Rattle.plex.specs.Words.{holds}
use Rattle.marks.specs.declared.set.MarkSet.{MarkSet}

-- the marks that are in a mark set
abbrev pub members : MarkSet → Set
members m = holds m.words

-- the lowest mark of a set, if it has any
abbrev pub Lowest : Set → Option ℕ → Type 0
Lowest s None = s ≡ none
Lowest s (Some u) = (u < 128) × (s u ≡ true) × ((i : ℕ) → i < u → s i ≡ false)

-- the marks of one set that pass a test are another set; what the test says of a mark is a relation of the mark and its answer
abbrev pub Filtered : (ℕ → Bool → Type 0) → Set → Set → Type 0
Filtered says s t = (v : ℕ) → (s v ≡ true → says v (t v)) × (s v ≡ false → t v ≡ false)
