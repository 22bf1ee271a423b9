use Rattle.std.proofs.Common.{◌+◌, ◌*◌, ◌/◌, ◌%◌, get_or, sym, ap, ◌∙◌, arith}
use Rattle.plex.proofs.Words.{bit_test}
use Rattle.sheet.specs.Rows.{bit_of}
use Rattle.sheet.proofs.Bits.{bit_at, bit_in_row, bit_in_words}
use Rattle.sheet.proofs.entry.Sealed.bit.Goals as goal

pub bounds-self-at : goal.bounds-self-at
bounds-self-at c =
    let s = c.args.self.now in
    let e = ap (λ r. c.args.i * r) c.words_in_row.ensures in
    omega (arith, bit_in_words s.marks c.args.i c.args.j c.requires.0 c.requires.1, s.fits)

pub returns : goal.returns
returns c =
    let s = c.args.self.now in
    let ws = s.words.now in
    let r = c.words_in_row.result in
    let i = c.args.i in
    let j = c.args.j in
    bit_test (get_or ws (i * r + j / 32) 0) (j % 32)
    ∙ sym (bit_at ws r i j (omega (arith, c.words_in_row.ensures, bit_in_row s.marks i j c.requires.0 c.requires.1)))
    ∙ ap (λ x. bit_of ws x i j) c.words_in_row.ensures
