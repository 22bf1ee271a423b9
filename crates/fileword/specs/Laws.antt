-- The laws of the file check. Assumes nothing.
use Rattle.std.specs.Prelude.{◌≡◌, ℕ, ◌+◌, ◌*◌, ◌^◌, ◌<◌, min, max, true, false, cond, List, Result, slice_index_or, Option}
use Rattle.plex.specs.Distance.{Sighting}
use Rattle.plex.specs.Sets.{among}
use Rattle.fileword.specs.Layout.{pair_word, load, point_of}
use Rattle.fileword.specs.Files.{Pair, PairFile, MeasuredFile, Good, named_in}
use Rattle.fileword.specs.Faults.{at, marks_said, k_said, measured, faulty, takes, Judged}
use Rattle.fileword.specs.declared.files.Form.{Form}
use Rattle.fileword.specs.declared.files.Form.TheVariants.{Pairs, Measured}
use Rattle.fileword.specs.declared.files.Summary.{Summary}
use Rattle.fileword.specs.declared.files.Fault.{Fault}
use Rattle.fileword.specs.declared.files.FileRefusal.{FileRefusal}

-- what the head and the word after it say
abbrev pub form_said : List ℕ → Form
form_said ws = cond (measured ws) Measured Pairs

abbrev pub said : List ℕ → Summary
said ws = record { form = form_said ws; marks = marks_said ws; k = k_said ws }

-- no word has a fault, and there is an end
abbrev pub Spotless : Option Form → List ℕ → Type 0
Spotless wanted ws = (p : ℕ) (f : Fault) → faulty wanted ws p f ≡ false

pub record AcceptedWhenGood : Type 0 where
  -- words without a fault are a good file, as their head says
  pub enough : (wanted : Option Form) (ws : List ℕ) → Spotless wanted ws → Good ws (said ws) × (takes wanted (form_said ws) ≡ true)
  -- a good file has no fault, and is as its head says
  pub needed : (wanted : Option Form) (ws : List ℕ) (f : Summary) → Good ws f → takes wanted f.form ≡ true → Spotless wanted ws × (f ≡ said ws)
  -- there is one verdict
  pub once : (wanted : Option Form) (ws : List ℕ) (u v : Result Summary FileRefusal) → Judged wanted ws u → Judged wanted ws v → u ≡ v

-- the sighting of mark i, where it stands in a measured file
abbrev pub sighting_at : List ℕ → ℕ → Sighting
sighting_at ws i = record {
  planned = point_of (at ws (2 + 4 * i)) (at ws (3 + 4 * i));
  seen = point_of (at ws (4 + 4 * i)) (at ws (5 + 4 * i));
}

-- what was written into a file is read out of it
pub record ReadsBack : Type 0 where
  pub pairs : (n k : ℕ) (ps : List Pair) (ws : List ℕ) → n < 2 ^ 8 → k < 2 ^ 8 → PairFile n k ps ws → (i j : ℕ) → i < n → j < n →
      among ws (pair_word (min i j) (max i j)) ≡ named_in ps i j
  pub tolerance : (n k t : ℕ) (ss : List Sighting) (ws : List ℕ) → MeasuredFile n k t ss ws → load (at ws 1) ≡ t
  pub sightings : (n k t : ℕ) (ss : List Sighting) (ws : List ℕ) → MeasuredFile n k t ss ws → (i : ℕ) → i < n →
      (d : Sighting) → sighting_at ws i ≡ slice_index_or ss i d
