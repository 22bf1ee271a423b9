-- Rows of bits in a caller's words. Assumes nothing.
use Rattle.std.specs.Prelude.{ℕ, ◌+◌, ◌*◌, ◌/◌, ◌%◌, ◌^◌, ◌≤◌, ◌&&◌, List, take, drop, bit_or, slice_index, slice_set}
use Rattle.plex.specs.Sets.{Agreement}
use Rattle.plex.specs.Words.{holds}

-- how many words a row of n bits takes: the least r with 32 r ≥ n
abbrev pub row_words : ℕ → ℕ
row_words n = (n + 31) / 32

-- the row of mark i, in rows of r words
abbrev pub row_of : List ℕ → ℕ → ℕ → List ℕ
row_of ws r i = take r (drop (i * r) ws)

-- bit j of the row of mark i is set
abbrev pub bit_of : List ℕ → ℕ → Agreement
bit_of ws r i j = holds (row_of ws r i) j

-- the words with bit j of the row of mark i set
abbrev pub bit_entered : List ℕ → ℕ → ℕ → ℕ → List ℕ
bit_entered ws r i j = slice_set ws (i * r + j / 32) (bit_or (slice_index ws (i * r + j / 32)) (2 ^ (j % 32)))

-- marks i and j agree if each has the other's bit in its row
abbrev pub both_bits : List ℕ → ℕ → Agreement
both_bits ws r i j = bit_of ws r i j && bit_of ws r j i

-- a row has the least number of words whose bits are at least n
abbrev pub LeastWords : Type 0
LeastWords = (n : ℕ) → (n ≤ 32 * row_words n) × ((r : ℕ) → n ≤ 32 * r → row_words n ≤ r)
