use Rattle.std.proofs.Common.{◌<◌, refl, ap, ◌∙◌, arith}
use Rattle.sheet.specs.Rows.{row_words, bit_entered}
use Rattle.sheet.proofs.Entering.{entered_pair, entered_again, entered_behind, entered_spare}
use Rattle.sheet.proofs.entry.Entry.enter.Goals as goal

pub returns : goal.returns
returns c =
    let e = c.args.self.now in
    let ws = e.words.now in
    let n = e.marks in
    let ws' = c.enter_bit-2.new.self.words.now in
    let i = c.args.i in
    let j = c.args.j in
    let hi : i < n = omega arith in
    let hj : j < n = omega arith in
    let one = c.enter_bit.ensures in
    let two = c.enter_bit-2.ensures in
    let is = two.words ∙ ap (λ xs. bit_entered xs (row_words c.enter_bit.new.self.marks) j i) one.words
    ∙ ap (λ m. bit_entered (bit_entered ws (row_words n) i j) (row_words m) j i) one.marks in
    record {
      marks = two.marks ∙ one.marks;
      lent = two.lent ∙ one.lent;
      enters = record {
        answer = refl;
        first = hi;
        second = hj;
        apart = c.if-i-j.false;
        words = is;
        agreement = entered_pair ws n i j hi hj c.if-i-j.false e.fits ws' is;
        again = entered_again ws n i j hi hj c.if-i-j.false e.fits ws' is;
        behind = entered_behind ws n i j hi hj c.if-i-j.false e.fits ws' is;
        spare = entered_spare ws n i j hi hj c.if-i-j.false e.fits ws' is;
      };
    }
