use Rattle.std.proofs.Common.{◌≡◌, ◌+◌, ◌<◌, sym, ap, ◌∙◌, ap₂, arith}
use Rattle.plex.specs.Sets.{card, below, ◌∖◌}
use Rattle.plex.proofs.Count.{card_le}
use Rattle.marks.specs.Members.{members}
use Rattle.pruning.specs.Pruned.{sum_to}
use Rattle.plex.proofs.Within.{minus_count}
use Rattle.plex.proofs.Below.{none_below}
use Rattle.coprune.proofs.Counting.{sum_none, sum_more, higher, higher_fit, seen_more}
use Rattle.coprune.proofs.rows.count_agreements.Goals as goal

pub loop-i-init : goal.loop-i-init
loop-i-init g c = (c.empty-seen.ensures ∙ none_below, sym (sum_none _))

pub overflow_add-count : goal.overflow_add-count
overflow_add-count g c =
    let m = g.S.Sheet.meaning c.args.sheet.now in
    omega (arith, higher_fit m c.loop-i.i, c.loop-i.invariant.1, c.count-count.ensures, card_le 128 (members c.minus.result), c.marks-i-end.ensures, m.few)

pub loop-i-preserved : goal.loop-i-preserved
loop-i-preserved g c =
    let m = g.S.Sheet.meaning c.args.sheet.now in
    let i = c.loop-i.i in
    let k : i < 128 = omega (arith, c.marks-i-end.ensures, m.few) in
    let seen = seen_more i _ _ c.loop-i.invariant.0 (c.with-seen.ensures.inside k) in
    let here : c.count-count.result ≡ higher m i =
    c.count-count.ensures ∙ ap (card 128) (c.minus.ensures ∙ ap₂ ◌∖◌ c.neighbours.ensures.set seen) ∙ minus_count m i (below (i + 1)) in
    (seen, omega (arith, c.loop-i.invariant.1, here, sum_more i (higher m)))

pub returns : goal.returns
returns g c =
    let m = g.S.Sheet.meaning c.args.sheet.now in
    let e : c.loop-i.i ≡ m.marks = omega (arith, c.marks-i-end.ensures) in
    c.loop-i.invariant.1 ∙ ap (λ x. sum_to x (higher m)) e
