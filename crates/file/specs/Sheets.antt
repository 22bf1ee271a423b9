-- What the sheets mean that read a file where its words stand. Assumes nothing.
use Rattle.std.specs.Prelude.{◌≡◌, ℕ, ◌≤◌, min, true, List, is_ok, Ok, Err, Result, slice_index_or, Some}
use Rattle.std.proofs.Math.Nat.{min-le_right}
use Rattle.plex.specs.Sets.{Agreement}
use Rattle.plex.specs.Meaning.{Meaning, agree_by, meaning_by}
use Rattle.plex.specs.Distance.{Sighting, sighted_alike}
use Rattle.fileword.specs.Layout.{load}
use Rattle.fileword.specs.Files.{Pair, PairFile, MeasuredFile, Good, named_in}
use Rattle.fileword.specs.Faults.{at, marks_said, Refused}
use Rattle.fileword.specs.Laws.{sighting_at}
use Rattle.fileword.specs.declared.files.Form.TheVariants.{Pairs, Measured}
use Rattle.fileword.specs.declared.files.FileRefusal.{FileRefusal}
use Rattle.pairing.specs.Naming.{names}
use Rattle.file.specs.declared.pairs.PairSheet.{PairSheet}
use Rattle.file.specs.declared.measured.MeasuredSheet.{MeasuredSheet}

-- the marks of a sheet that reads the words ws: as many as the head says, and never more than 128
abbrev pub sheet_marks : List ℕ → ℕ
sheet_marks ws = min (marks_said ws) 128

-- a pair sheet: two marks agree if the words name them
abbrev pub pair_meaning : List ℕ → Meaning
pair_meaning ws = meaning_by (sheet_marks ws) (min-le_right (marks_said ws) 128) (names ws)

-- a measured sheet: the marks are sighted alike
unfoldable pub alike : List ℕ → Agreement
alike ws i j = sighted_alike (load (at ws 1)) (sighting_at ws i) (sighting_at ws j)

abbrev pub measured_meaning : List ℕ → Meaning
measured_meaning ws = meaning_by (sheet_marks ws) (min-le_right (marks_said ws) 128) (alike ws)

-- a pair sheet was made of a good pair file: its marks are the file's, and those agree that the file names
pub record ReadsPairs (ws : List ℕ) (s : PairSheet) : Type 0 where
  pub words : s.words.now ≡ ws
  pub n : ℕ
  pub k : ℕ
  pub pairs : List Pair
  pub few : n ≤ 128
  pub low : 1 ≤ k
  pub high : k ≤ 16
  pub file : PairFile n k pairs ws
  pub marks : (pair_meaning ws).marks ≡ n
  pub agreement : (i j : ℕ) → (pair_meaning ws).agrees i j ≡ named_in pairs i j

abbrev pub PairsRead : List ℕ → Result PairSheet FileRefusal → Type 0
PairsRead ws (Ok s) = ReadsPairs ws s
PairsRead ws (Err e) = Refused (Some Pairs) ws e

-- every good pair file is read
abbrev pub PairsAccepted : List ℕ → Result PairSheet FileRefusal → Type 0
PairsAccepted ws r = (n k : ℕ) → Good ws (record { form = Pairs; marks = n; k = k }) → is_ok r ≡ true

-- a measured sheet was made of a good measured file: its marks are the file's, and two marks agree as their sightings say
pub record ReadsMeasured (ws : List ℕ) (s : MeasuredSheet) : Type 0 where
  pub words : s.words.now ≡ ws
  pub n : ℕ
  pub k : ℕ
  pub tolerance : ℕ
  pub sightings : List Sighting
  pub few : n ≤ 128
  pub low : 1 ≤ k
  pub high : k ≤ 16
  pub file : MeasuredFile n k tolerance sightings ws
  pub marks : (measured_meaning ws).marks ≡ n
  pub agreement : (i j : ℕ) (d : Sighting) →
      (measured_meaning ws).agrees i j ≡ agree_by n (λ a b. sighted_alike tolerance (slice_index_or sightings a d) (slice_index_or sightings b d)) i j

abbrev pub MeasuredRead : List ℕ → Result MeasuredSheet FileRefusal → Type 0
MeasuredRead ws (Ok s) = ReadsMeasured ws s
MeasuredRead ws (Err e) = Refused (Some Measured) ws e

-- every good measured file is read
abbrev pub MeasuredAccepted : List ℕ → Result MeasuredSheet FileRefusal → Type 0
MeasuredAccepted ws r = (n k : ℕ) → Good ws (record { form = Measured; marks = n; k = k }) → is_ok r ≡ true
