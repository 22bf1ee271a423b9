-- Two different marks, the lower one first. Assumes nothing.
use Rattle.std.specs.Prelude.{◌≡◌, ℕ, ◌<◌, min, max, Some, None, Option}

-- marks i and j, if they differ and both are below n, and otherwise nothing
abbrev pub TwoMarks : ℕ → ℕ → ℕ → Option (ℕ × ℕ) → Type 0
TwoMarks n i j (Some p) = (i < n) × (j < n) × (i ≡ j → ⊥) × (p.0 ≡ min i j) × (p.1 ≡ max i j)
TwoMarks n i j None = i < n → j < n → i ≡ j
