-- Words as bytes. Assumes nothing.
use Rattle.std.specs.Prelude.{◌≡◌, ℕ, ◌/◌, ◌%◌, ◌^◌, ◌≤◌, List, [], ◌∷◌, length}
use Rattle.std.specs.List.{flat_map}

-- the four bytes of a 32-bit word, the lowest first
abbrev pub word_bytes : ℕ → List ℕ
word_bytes w = w % 2 ^ 8 ∷ w / 2 ^ 8 % 2 ^ 8 ∷ w / 2 ^ 16 % 2 ^ 8 ∷ w / 2 ^ 24 ∷ []

-- the bytes bs are the words ws
abbrev pub Stores : List ℕ → List ℕ → Type 0
Stores bs ws = flat_map word_bytes ws ≡ bs

-- no more bytes than a file may have, and whole words
abbrev pub Whole : List ℕ → Type 0
Whole bs = (length bs ≤ 65536) × (length bs % 4 ≡ 0)
