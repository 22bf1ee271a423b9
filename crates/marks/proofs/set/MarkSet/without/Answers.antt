use Rattle.std.proofs.Common.{◌≡◌, length, sym, ap, ◌∙◌, arith, rules}
use Rattle.plex.specs.Sets.{card}
use Rattle.plex.specs.Words.{holds}
use Rattle.plex.proofs.Count.{card_less}
use Rattle.marks.proofs.Four.{holds_past, holds_bit_cleared, without_there}
use Rattle.marks.proofs.set.MarkSet.without.Goals as goal
use Rattle.marks.proofs.set.MarkSet.without.Goals.{then-mark-ge128-via-then-mark-ge128, then-mark-ge128-via-else-mark-ge128+then-not-has}

pub returns-then-mark-ge128 : goal.returns-then-mark-ge128
returns-then-mark-ge128 c =
    let ws = c.args.self.words in
    let i = c.args.mark in
    let l : length ws ≡ 4 = search rules in
    elim c.then-mark-ge128.branch [
      | then-mark-ge128-via-then-mark-ge128 w ↦ without_there (holds ws) i (holds_past ws l i w.if-mark-ge128.true)
      | then-mark-ge128-via-else-mark-ge128+then-not-has w ↦ without_there (holds ws) i (sym w.has.ensures.inside ∙ w.if-not-has.true)
    ]

pub overflow_sub-result : goal.overflow_sub-result
overflow_sub-result c =
    let s = holds c.args.self.words in
    omega (arith, c.args.self.counted, card_less 128 s c.args.mark c.if-mark-ge128.false (sym c.if-not-has.ensures.inside))

pub invariant_of-result : goal.invariant_of-result
invariant_of-result c =
    let ws = c.args.self.words in
    let i = c.args.mark in
    let l : length ws ≡ 4 = search rules in record {
      counted = omega (
        arith,
        c.args.self.counted,
        ap (card 128) (holds_bit_cleared ws i l c.if-mark-ge128.false),
        card_less 128 (holds ws) i c.if-mark-ge128.false (sym c.if-not-has.ensures.inside),
      );
    }

pub returns : goal.returns
returns c =
    let ws = c.args.self.words in
    let l : length ws ≡ 4 = search rules in
    holds_bit_cleared ws c.args.mark l c.if-mark-ge128.false
