use Rattle.std.proofs.Common.{◌≡◌, length, sym, refl, ap, ◌∙◌, arith, rules}
use Rattle.plex.specs.Sets.{card}
use Rattle.plex.specs.Words.{holds}
use Rattle.plex.proofs.Count.{card_le, card_more}
use Rattle.marks.proofs.Four.{holds_bit_set, with_there}
use Rattle.marks.proofs.set.MarkSet.with.Goals as goal
use Rattle.marks.proofs.set.MarkSet.with.Goals.{then-mark-ge128-via-then-mark-ge128, then-mark-ge128-via-else-mark-ge128+then-has}

pub returns-then-mark-ge128 : goal.returns-then-mark-ge128
returns-then-mark-ge128 c =
    let s = holds c.args.self.words in
    record {
      inside = λ h.
          elim c.then-mark-ge128.branch [
            | then-mark-ge128-via-then-mark-ge128 w ↦ absurd (omega arith)
            | then-mark-ge128-via-else-mark-ge128+then-has w ↦
                with_there s c.args.mark (sym w.has.ensures.inside ∙ w.if-has.true)
          ];
      outside = λ _. refl;
    }

pub overflow_add-result : goal.overflow_add-result
overflow_add-result c = omega (arith, c.args.self.counted, card_le 128 (holds c.args.self.words))

pub invariant_of-result : goal.invariant_of-result
invariant_of-result c =
    let ws = c.args.self.words in
    let i = c.args.mark in
    let l : length ws ≡ 4 = search rules in record {
      counted = omega (
        arith,
        c.args.self.counted,
        ap (card 128) (holds_bit_set ws i l c.if-mark-ge128.false),
        card_more 128 (holds ws) i c.if-mark-ge128.false (sym c.if-has.ensures.inside),
      );
    }

pub returns : goal.returns
returns c =
    let ws = c.args.self.words in
    let l : length ws ≡ 4 = search rules in
    record {
      inside = λ h. holds_bit_set ws c.args.mark l h;
      outside = λ h. absurd (omega (arith, c.if-mark-ge128.false));
    }
