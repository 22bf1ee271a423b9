-- What it is to copy a sheet into a table of pairs. Assumes nothing.
use Rattle.std.specs.Prelude.{◌≡◌, ℕ, ◌+◌, ◌<◌, ◌≤◌, ◌⊎◌, ⊤, List, [], ◌∷◌, ◌++◌, length, take, Ok, Err, Result, slice_index}
use Rattle.plex.specs.Sets.{Set, card, below, ◌∖◌}
use Rattle.plex.specs.Meaning.{Meaning}
use Rattle.pruning.specs.Pruned.{agreements}
use Rattle.fileword.specs.Layout.{kind}
use Rattle.tables.specs.Pairs.{row_pairs, pairs_to}
use Rattle.tables.specs.Meanings.{pair_table_meaning}
use Rattle.tables.specs.declared.pairs.PairTable.{PairTable}
use Rattle.tables.specs.declared.pairs.TableRefusal.{TableRefusal}
use Rattle.tables.specs.declared.pairs.TableRefusal.TheVariants.{TooManyAgreements}
use Rattle.tables.specs.declared.pairs.listing.PairList.{PairList}

-- the number of the refusal
abbrev pub number : TableRefusal → ℕ
number TooManyAgreements = 31

-- a table of pairs has the marks and the agreement of a sheet, and no word is struck
pub record PairCopy (m : Meaning) (t : PairTable) : Type 0 where
  pub fits : agreements m.marks m.agrees ≤ 4096
  pub marks : t.marks ≡ m.marks
  pub agrees : (pair_table_meaning t).agrees ≡ m.agrees
  -- the words of the pairs in their order; the others are 0, as in every table
  pub front : take t.len t.words ≡ pairs_to m.marks m.marks m.agrees
  pub fresh : (p : ℕ) → (slice_index t.words p ≡ 0) ⊎ (kind (slice_index t.words p) ≡ 2)

-- a sheet is copied if it has at most 4,096 agreements
abbrev pub Copied : Meaning → Result PairTable TableRefusal → Type 0
Copied m (Ok t) = PairCopy m t
Copied m (Err TooManyAgreements) = 4096 < agreements m.marks m.agrees

-- the words of a list
abbrev pub listed : PairList → List ℕ
listed l = take l.len l.words

-- a word was put behind the others, or there was no room
abbrev pub Pushed : List ℕ → ℕ → Result ⊤ TableRefusal → List ℕ → Type 0
Pushed xs w (Ok v) ys = ys ≡ xs ++ w ∷ []
Pushed xs w (Err e) ys = length xs ≡ 4096

-- the words of mark i with the higher marks of s were put behind the others, or there was no room for them
abbrev pub RowAdded : List ℕ → ℕ → ℕ → Set → Result ⊤ TableRefusal → List ℕ → Type 0
RowAdded xs i n s (Ok v) ys = ys ≡ xs ++ row_pairs i n s
RowAdded xs i n s (Err e) ys = 4096 < length xs + card n (s ∖ below (i + 1))

-- the words of all pairs were listed, or there was no room for them
abbrev pub Listed : Meaning → Result PairList TableRefusal → Type 0
Listed m (Ok l) = listed l ≡ pairs_to m.marks m.marks m.agrees
Listed m (Err TooManyAgreements) = 4096 < agreements m.marks m.agrees
