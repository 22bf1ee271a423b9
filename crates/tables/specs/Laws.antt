-- The laws of the tables, each proved where a contract names it. Assumes nothing.
use Rattle.std.specs.Prelude.{◌≡◌, ℕ, List, length}
use Rattle.std.specs.List.{AllByRecursion}
use Rattle.plex.specs.Words.{Words}
use Rattle.tables.specs.Meanings.{bit_meaning, pair_table_meaning, loads}
use Rattle.tables.specs.declared.pairs.PairTable.{PairTable}
use Rattle.tables.specs.declared.bits.BitTable.{BitTable}

-- what the type of a table's rows says: 128 rows, each of four 32-bit words
pub record FourToARow (rows : List (List ℕ)) : Type 0 where
  pub many : length rows ≡ 128
  pub each : AllByRecursion (λ ws. (length ws ≡ 4) × Words ws) rows

-- every word follows from what the table means: tables that mean the same agreement have the same rows.
-- A statement takes a table's rows as lists, so it asks for what their type says.
abbrev pub RowsFollow : Type 0
RowsFollow =
    (s t : BitTable) → FourToARow s.rows → FourToARow t.rows → (bit_meaning s).agrees ≡ (bit_meaning t).agrees → s.rows ≡ t.rows

-- so it is with pairs: tables of the same loads that mean the same have the same words
abbrev pub PairsFollow : Type 0
PairsFollow =
    (s t : PairTable) → loads s ≡ loads t → s.marks ≡ t.marks → (pair_table_meaning s).agrees ≡ (pair_table_meaning t).agrees → s.words ≡ t.words
