-- Looking up the word of a pair. Assumes nothing.
use Rattle.std.specs.Prelude.{◌≡◌, ℕ, ◌<◌, false, List, length, Some, None, Option, slice_index}
use Rattle.plex.specs.Sets.{among}

-- a word is looked up among the first len of the words
abbrev pub Found : List ℕ → ℕ → ℕ → Option ℕ → Type 0
Found ws len w None = among ws w ≡ false
Found ws len w (Some p) = (p < len) × (p < length ws) × (slice_index ws p ≡ w)
