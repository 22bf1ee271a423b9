use Rattle.std.proofs.Common.{◌≡◌, length, get_or, sym, arith, rules}
use lib.Count.{ones-le}
use Rattle.marks.proofs.Four.{card_four}
use Rattle.marks.proofs.set.MarkSet.from_words.Goals as goal

pub overflow_add-count : goal.overflow_add-count
overflow_add-count c =
    omega (arith, ones-le 32 (get_or c.args.words 0 0) c.element_fits.fits, ones-le 32 (get_or c.args.words 1 0) c.element_fits2.fits)

pub overflow_add-count-2 : goal.overflow_add-count-2
overflow_add-count-2 c =
    omega (
      arith,
      ones-le 32 (get_or c.args.words 0 0) c.element_fits.fits,
      ones-le 32 (get_or c.args.words 1 0) c.element_fits2.fits,
      ones-le 32 (get_or c.args.words 2 0) c.element_fits3.fits,
    )

pub overflow_add-count-3 : goal.overflow_add-count-3
overflow_add-count-3 c =
    omega (
      arith,
      ones-le 32 (get_or c.args.words 0 0) c.element_fits.fits,
      ones-le 32 (get_or c.args.words 1 0) c.element_fits2.fits,
      ones-le 32 (get_or c.args.words 2 0) c.element_fits3.fits,
      ones-le 32 (get_or c.args.words 3 0) c.element_fits4.fits,
    )

pub invariant_of-result : goal.invariant_of-result
invariant_of-result c =
    let l : length c.args.words ≡ 4 = search rules in
    record { counted = sym (card_four c.args.words l c.element_fits.fits c.element_fits2.fits c.element_fits3.fits c.element_fits4.fits) }
