use Rattle.std.proofs.Common.{◌≡◌, ◌&&◌, length, get_or, refl, ap, ◌∙◌, rules}
use lib.Bits.{bit_and}
use Rattle.plex.specs.Words.{bits_of}
use Rattle.plex.proofs.Words.{bits_of_and}
use Rattle.marks.proofs.Four.{each_of_four}
use Rattle.marks.proofs.set.MarkSet.and.Goals as goal

pub returns : goal.returns
returns c =
    let us = c.args.self.words in
    let vs = c.args.other.words in
    let ws = c.word_by_word.result.words in
    let l : length us ≡ 4 = search rules in
    let m : length vs ≡ 4 = search rules in
    let n : length ws ≡ 4 = search rules in
    each_of_four ◌&&◌ us vs ws refl l m n (λ w h i _.
    (let made = c.word_by_word.ensures w h in
    let e : get_or ws w 0 ≡ bit_and (get_or us w 0) (get_or vs w 0) = search rules in
    ap (λ x. bits_of x i) e ∙ bits_of_and (get_or us w 0) (get_or vs w 0) i))
