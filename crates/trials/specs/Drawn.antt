-- Which pairs agree by chance, and the numbers drawn for them. Assumes nothing.
use Rattle.std.specs.Prelude.{ℕ, zero, suc, ◌+◌, ◌-◌, ◌/◌, ◌%◌, Bool, cond, ◌&&◌, nat_lt}
use Rattle.trials.specs.Following.{following}
use Rattle.trials.specs.Noted.{notable}

-- the number after so many draws
unfoldable pub drawn : ℕ → ℕ → ℕ
drawn zero s = s
drawn (suc k) s = following (drawn k s)

-- how many numbers are drawn for the pairs of which the first mark is below i
unfoldable pub draws_below : ℕ → ℕ → ℕ
draws_below marks zero = 0
draws_below marks (suc i) = draws_below marks i + (marks - i)

-- whether what is drawn for marks i and j, i the lower, lets them agree
abbrev pub falls : ℕ → ℕ → ℕ → ℕ → ℕ → Bool
falls marks tenths s i j = nat_lt (drawn (suc (draws_below marks i + (j - i))) s / 65536 % 10) tenths

-- which marks of n agree when the pairs of so many are drawn in their order
abbrev pub by_chance : ℕ → ℕ → ℕ → ℕ → ℕ → ℕ → Bool
by_chance n marks tenths s p q =
    notable n p q && cond (nat_lt p q) (nat_lt q marks && falls marks tenths s p q) (nat_lt p marks && falls marks tenths s q p)
