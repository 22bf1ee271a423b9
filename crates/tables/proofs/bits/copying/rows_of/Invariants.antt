use Rattle.std.proofs.Common.{◌≡◌, length}
use Rattle.tables.specs.Bits.{bit_agrees}
use Rattle.tables.proofs.Rows.{rows_below}
use Rattle.tables.proofs.bits.copying.rows_of.Given as goal

-- the rows of the marks below i are there
abbrev pub invariant-loop-i : goal.invariant-loop-i
invariant-loop-i g l = (length l.rows ≡ 128) × (bit_agrees l.rows ≡ rows_below l.i (g.S.Sheet.meaning l.sheet).agrees)
