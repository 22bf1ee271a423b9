-- What an entry answers, and what it leaves in the words. Assumes nothing.
use Rattle.std.specs.Prelude.{◌≡◌, ℕ, ◌*◌, ◌<◌, ◌≤◌, true, false, ◌||◌, List, ◌++◌, length, drop, replicate, Ok, Err, Result, slice_index}
use Rattle.plex.specs.Sets.{Agreement, is_pair}
use Rattle.plex.specs.Meaning.{agree_by}
use Rattle.sheet.specs.Rows.{row_words, bit_of, bit_entered, both_bits}
use Rattle.sheet.specs.declared.entry.Entry.{Entry}
use Rattle.sheet.specs.declared.entry.NotBegun.{NotBegun}
use Rattle.sheet.specs.declared.entry.EntryRefusal.{EntryRefusal}
use Rattle.sheet.specs.declared.entry.EntryRefusal.TheVariants.{TooManyMarks, TooFewWords, NoSuchMark, SameMark}

-- the number of each refusal
abbrev pub number : EntryRefusal → ℕ
number TooManyMarks = 21
number TooFewWords = 22
number NoSuchMark = 23
number SameMark = 24

-- which marks agree so far, by the words and the number of marks
abbrev pub entered : List ℕ → ℕ → Agreement
entered ws n = agree_by n (both_bits ws (row_words n))

-- an entry of n marks is begun in the words ws: the words of its rows are cleared, and no others
pub record Begun (ws : List ℕ) (n : ℕ) (e : Entry) : Type 0 where
  pub few : n ≤ 128
  pub room : n * row_words n ≤ length ws
  pub marks : e.marks ≡ n
  pub cleared : e.words.now ≡ replicate (n * row_words n) 0 ++ drop (n * row_words n) ws
  pub nothing : (i j : ℕ) → entered e.words.now n i j ≡ false

-- under which condition a beginning is refused
abbrev pub IsNotBegun : List ℕ → ℕ → EntryRefusal → Type 0
IsNotBegun ws n TooManyMarks = 128 < n
IsNotBegun ws n TooFewWords = (n ≤ 128) × (length ws < n * row_words n)
IsNotBegun ws n NoSuchMark = ⊥
IsNotBegun ws n SameMark = ⊥

-- a refusal hands the words back as they were
abbrev pub Begins : List ℕ → ℕ → Result Entry NotBegun → Type 0
Begins ws n (Ok e) = Begun ws n e
Begins ws n (Err b) = IsNotBegun ws n b.refusal × (b.words.now ≡ ws)

-- both bits are set, and so just this agreement is there besides those that were
pub record Entered (ws : List ℕ) (n i j v : ℕ) (ws' : List ℕ) : Type 0 where
  pub answer : v ≡ 0
  pub first : i < n
  pub second : j < n
  pub apart : i ≡ j → ⊥
  pub words : ws' ≡ bit_entered (bit_entered ws (row_words n) i j) (row_words n) j i
  pub agreement : (p q : ℕ) → entered ws' n p q ≡ (entered ws n p q || is_pair i j p q)
  -- entering a pair again changes nothing
  pub again : entered ws n i j ≡ true → ws' ≡ ws
  -- the words behind the rows stay, and so do the bits at or above n
  pub behind : (p : ℕ) → n * row_words n ≤ p → slice_index ws' p ≡ slice_index ws p
  pub spare : (p q : ℕ) → p < n → n ≤ q → bit_of ws' (row_words n) p q ≡ bit_of ws (row_words n) p q

-- the pair i and j is entered among n marks in the words ws, which leaves the words ws'
abbrev pub Enters : List ℕ → ℕ → ℕ → ℕ → Result ℕ EntryRefusal → List ℕ → Type 0
Enters ws n i j (Ok v) ws' = Entered ws n i j v ws'
Enters ws n i j (Err NoSuchMark) ws' = (i < n → j < n → ⊥) × (ws' ≡ ws)
Enters ws n i j (Err SameMark) ws' = (i < n) × (j < n) × (i ≡ j) × (ws' ≡ ws)
Enters ws n i j (Err TooManyMarks) ws' = ⊥
Enters ws n i j (Err TooFewWords) ws' = ⊥
