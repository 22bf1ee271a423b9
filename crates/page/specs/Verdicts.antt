-- The verdict on a file's bytes, and the line that is printed. Assumes nothing.
use Rattle.std.specs.Prelude.{◌≡◌, ℕ, List, [], ◌∷◌, ◌++◌, Ok, Err, codes, decimal, Result, None}
use Rattle.fileword.specs.Files.{Good}
use Rattle.fileword.specs.Faults.{number, Refused}
use Rattle.fileword.specs.declared.files.Summary.{Summary}
use Rattle.page.specs.Bytes.{Stores, Whole}
use Rattle.page.specs.declared.verdict.Refusal.{Refusal}
use Rattle.page.specs.declared.verdict.Refusal.TheVariants.{NotWords, Word}

-- the number and the place of each refusal
abbrev pub number_of : Refusal → ℕ
number_of NotWords = 61
number_of (Word r) = number r.fault

abbrev pub place_of : Refusal → ℕ
place_of NotWords = 0
place_of (Word r) = r.place

-- bytes that are not whole words, or too many, are refused; otherwise their words are judged
abbrev pub Verdict : List ℕ → Result Summary Refusal → Type 0
Verdict bs (Ok f) = Whole bs × ((ws : List ℕ) × Stores bs ws × Good ws f)
Verdict bs (Err NotWords) = Whole bs → ⊥
Verdict bs (Err (Word r)) = Whole bs × ((ws : List ℕ) × Stores bs ws × Refused None ws r)

-- the line of a verdict
abbrev pub line : Result Summary Refusal → List ℕ
line (Ok f) = codes "MARKS " ++ (decimal f.marks ++ (codes " K " ++ (decimal f.k ++ (10 ∷ []))))
line (Err r) = codes "REFUSED " ++ (decimal (number_of r) ++ (codes " WORD " ++ (decimal (place_of r) ++ (10 ∷ []))))

-- what is printed is the line of the verdict on the file
abbrev pub Printed : List ℕ → List ℕ → Type 0
Printed bs printed = (v : Result Summary Refusal) × Verdict bs v × (printed ≡ line v)

-- there is one verdict on a file
abbrev pub OneVerdict : Type 0
OneVerdict = (bs : List ℕ) (u v : Result Summary Refusal) → Verdict bs u → Verdict bs v → u ≡ v
