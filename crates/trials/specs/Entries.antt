-- What a sheet or a table made of a test's answers is, and when there is none. Assumes nothing.
use Rattle.std.specs.Prelude.{ℕ, ◌*◌, ◌<◌, ◌≤◌, Bool, List, length}
use Rattle.sheet.specs.Rows.{row_words}

-- the agreement of two marks below n is what the test can answer for the lower and the higher one
abbrev pub AsAnswered : (ℕ → ℕ → Bool → Type 0) → ℕ → (ℕ → ℕ → Bool) → Type 0
AsAnswered says n agrees = (i j : ℕ) → i < j → j < n → says i j (agrees i j)

-- n marks are not too many, and the words have room for their rows
abbrev pub HasRoom : List ℕ → ℕ → Type 0
HasRoom ws n = (n ≤ 128) × (n * row_words n ≤ length ws)
