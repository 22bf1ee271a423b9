-- Rows of bits, four words to a row. Assumes nothing.
use Rattle.std.specs.Prelude.{ℕ, List, [], slice_index_or}
use Rattle.plex.specs.Sets.{Agreement}
use Rattle.plex.specs.Words.{holds}

-- marks i and j agree if row i holds mark j; a row past the last one holds nothing
abbrev pub bit_agrees : List (List ℕ) → Agreement
bit_agrees rows i j = holds (slice_index_or rows i []) j
