-- Sets of marks held in 32-bit words: bit b of word w stands for mark 32w + b. Assumes nothing.
use Rattle.std.specs.Prelude.{ℕ, zero, suc, ◌+◌, ◌*◌, ◌/◌, ◌%◌, ◌^◌, ◌<◌, List, [], ◌∷◌, ◌==◌, count_ones, slice_index}
use Rattle.plex.specs.Sets.{Set, one_if}

-- the bits of a word
unfoldable pub bits_of : ℕ → Set
bits_of w b = w / 2 ^ b % 2 == 1

-- the marks that a list of words holds; a word past its end is 0
abbrev pub holds : List ℕ → Set
holds ws i = bits_of (slice_index ws (i / 32)) (i % 32)

-- how many bits of the words are 1
abbrev pub ones_in : List ℕ → ℕ
ones_in [] = 0
ones_in (w ∷ ws) = count_ones w + ones_in ws

-- each is a 32-bit word
abbrev pub Words : List ℕ → Type 0
Words [] = Unit {0}
Words (w ∷ ws) = (w < 2 ^ 32) × Words ws

-- the word whose first m bits are those of s
unfoldable pub word_of : ℕ → Set → ℕ
word_of zero s = 0
word_of (suc m) s = one_if (s 0) + 2 * word_of m (λ i. s (suc i))

-- the m words that hold the marks of s
abbrev pub words_of : ℕ → Set → List ℕ
words_of zero s = []
words_of (suc m) s = word_of 32 s ∷ words_of m (λ i. s (32 + i))
