use Rattle.std.proofs.Common.{◌≡◌, ℕ, ◌&&◌, leb, sym, ap, ◌∙◌, arith}
use Rattle.tables.specs.Bits.{bit_agrees}
use Rattle.tables.proofs.Rows.{inside_test}
use Rattle.tables.proofs.bits.BitTable.copy_of.Goals as goal

pub invariant_of-result : goal.invariant_of-result
invariant_of-result g c =
    let m = g.S.Sheet.meaning c.args.sheet.now in
    let n = c.marks.result in
    let e : (i j : ℕ) → bit_agrees c.rows_of.result i j ≡ m.agrees i j = λ i j. ap (λ r. r i j) c.rows_of.ensures in record {
      few = omega (arith, m.few, c.marks.ensures);
      symmetric = λ i j. e i j ∙ m.symmetric i j ∙ sym (e j i);
      irreflexive = λ i. e i i ∙ m.irreflexive i;
      inside =
          λ i j. ap (λ b. leb n i && b) (e i j) ∙ inside_test n i (m.agrees i j) (λ h. m.inside i j (omega (arith, c.marks.ensures)));
    }
