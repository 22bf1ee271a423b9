-- What each table means. Assumes nothing.
use Rattle.std.proofs.Common.{sym, ap, ◌∙◌}
use Rattle.std.specs.Prelude.{ℕ, ◌&&◌, List, map}
use Rattle.std.proofs.lemmas.Bool.{le-leb}
use Rattle.plex.specs.Meaning.{Meaning, meaning_by}
use Rattle.fileword.specs.Layout.{load}
use Rattle.tables.specs.Bits.{bit_agrees}
use Rattle.pairing.specs.Naming.{names}
use Rattle.tables.specs.declared.bits.BitTable.{BitTable}
use Rattle.tables.specs.declared.pairs.PairTable.{PairTable}

-- two marks agree if the row of one holds the other
abbrev pub bit_meaning : BitTable → Meaning
bit_meaning t = record {
  marks = t.marks;
  agrees = bit_agrees t.rows;
  few = t.few;
  symmetric = t.symmetric;
  irreflexive = t.irreflexive;
  inside = λ i j h. ap (λ b. b && bit_agrees t.rows i j) (sym (le-leb t.marks i h)) ∙ t.inside i j;
}

-- two marks agree if a word is that of their pair, the lower mark first
abbrev pub pair_table_meaning : PairTable → Meaning
pair_table_meaning t = meaning_by t.marks t.few (names t.words)

-- the pairs of a table, struck or not, in their order
abbrev pub loads : PairTable → List ℕ
loads t = map load t.words
