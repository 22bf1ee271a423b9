use Rattle.std.proofs.Common.{◌≡◌, ℕ, ◌&&◌, leb, sym, ap, ◌∙◌}
use Rattle.plex.specs.Sets.{struck}
use Rattle.tables.specs.Bits.{bit_agrees}
use Rattle.tables.proofs.Rows.{struck_symmetric, struck_irreflexive, struck_inside}
use Rattle.tables.proofs.bits.questions.BitTableStrike.strike.Goals as goal

pub invariant_of-self : goal.invariant_of-self
invariant_of-self c =
    let t = c.args.self.now in
    let u = c.args.i in
    let v = c.args.j in
    let r = bit_agrees t.rows in
    let e : (i j : ℕ) → bit_agrees c.clear_pair.new.rows i j ≡ struck u v r i j = λ i j. ap (λ s. s i j) c.clear_pair.ensures in record {
      few = t.few;
      symmetric = λ i j. e i j ∙ struck_symmetric r u v t.symmetric i j ∙ sym (e j i);
      irreflexive = λ i. e i i ∙ struck_irreflexive r u v t.irreflexive i;
      inside = λ i j. ap (λ b. leb t.marks i && b) (e i j) ∙ struck_inside r t.marks u v t.inside i j;
    }
