-- The words of a table of pairs, and how they are listed. Assumes nothing.
use Rattle.std.specs.Prelude.{ℕ, zero, suc, ◌+◌, Bool, cond, not, ◌&&◌, ◌||◌, List, [], ◌++◌, map, ◌==◌, nat_le, nat_lt, slice_index}
use Rattle.plex.specs.Sets.{Set, Agreement, below, rising, ◌∖◌}
use Rattle.fileword.specs.Layout.{kind, load, upper, lower, pair_word}

-- the word of a pair among n marks, of kind 2, or of one that was struck, of kind 14
abbrev pub pair_or_struck : ℕ → ℕ → Bool
pair_or_struck n w = (kind w == 2 || kind w == 14) && (nat_lt (upper w) (lower w) && nat_lt (lower w) n)

-- what stands at place p: a pair's word at the first len places, and 0 after them
unfoldable pub stands : List ℕ → ℕ → ℕ → ℕ → Bool
stands ws len n p = cond (nat_lt p len) (pair_or_struck n (slice_index ws p)) (slice_index ws p == 0)

-- the pairs at places p and q do not rise
unfoldable pub out_of_order : List ℕ → ℕ → ℕ → ℕ → Bool
out_of_order ws len p q = (nat_lt p q && nat_lt q len) && nat_le (load (slice_index ws q)) (load (slice_index ws p))

-- something stands at a place from len on
unfoldable pub left_over : List ℕ → ℕ → ℕ → Bool
left_over ws len p = nat_le len p && not (slice_index ws p == 0)

-- the words of mark i with the higher marks of s below n
abbrev pub row_pairs : ℕ → ℕ → Set → List ℕ
row_pairs i n s = map (pair_word i) (rising n (s ∖ below (i + 1)))

-- the words of the pairs whose lower mark is below m, in their order
unfoldable pub pairs_to : ℕ → ℕ → Agreement → List ℕ
pairs_to zero n r = []
pairs_to (suc m) n r = pairs_to m n r ++ row_pairs m n (r m)
