use Rattle.std.proofs.Common.{ℕ, ◌+◌, ◌-◌, ◌*◌, ◌/◌, ◌%◌, ◌^◌, ◌<◌, ◌≤◌, length, set, refl, ap, ◌∙◌, arith}
use lib.Bits.{bit_or}
use borrow.Rule.Slice.PartMut.{put_mid}
use Rattle.sheet.specs.Rows.{bit_entered}
use Rattle.sheet.proofs.Parts.{part_set, part_at}
use Rattle.sheet.proofs.Bits.{bit_in_row, row_in_words}
use Rattle.sheet.proofs.entry.Entry.enter_bit.Goals as goal

pub slice_bounds-set_bit-end : goal.slice_bounds-set_bit-end
slice_bounds-set_bit-end c =
    let e = c.args.self.now in
    let s = ap (λ r. c.args.i * r) c.words_in_row-r.ensures in
    omega (arith, row_in_words e.marks c.args.i c.args.i c.requires.first c.requires.first, c.words_in_row-r.ensures, e.fits)

pub returns : goal.returns
returns c =
    let e = c.args.self.now in
    let ws = e.words.now in
    let n = e.marks in
    let i = c.args.i in
    let j = c.args.j in
    let r = c.words_in_row-r.result in
    let a = i * r in
    let k = a + r - a in
    let is = c.words_in_row-r.ensures in
    let hi = c.requires.first in
    let hj = c.requires.second in
    let s = ap (λ x. i * x) is in
    let l : a + k ≤ length ws = omega (arith, row_in_words n i j hi hj, e.fits) in
    let p : j / 32 < k = omega (arith, bit_in_row n i j hi hj) in
    record {
      marks = refl;
      lent = refl;
      words = ap (put_mid a k ws) c.set_bit.ensures ∙ part_set ws a k (j / 32) _ l p
          ∙ ap (λ (b : ℕ). set ws (a + j / 32) (bit_or b (2 ^ (j % 32)))) (part_at ws a k (j / 32) p)
          ∙ ap (λ x. bit_entered ws x i j) is;
    }
