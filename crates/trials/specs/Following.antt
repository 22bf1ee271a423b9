-- The row of numbers that look like chance. Assumes nothing.
use Rattle.std.specs.Prelude.{ℕ, ◌+◌, ◌*◌, ◌%◌, ◌^◌}

-- the number that follows another
abbrev pub following : ℕ → ℕ
following n = (n * 1664525 % 2 ^ 32 + 1013904223) % 2 ^ 32
