use Rattle.std.proofs.Common.{◌≡◌, ap, ◌∙◌, ap₂, arith}
use Rattle.plex.specs.Sets.{card, ◌∩◌, ◌∪◌}
use Rattle.marks.specs.Members.{members}
use Rattle.branch.specs.Opened.{agreed}
use Rattle.branch.proofs.Sweeps.{sweeping_none, sweeping_keeps, sweeping_drops, sweeping_all}
use Rattle.branch.proofs.opened.Opened.swept.Goals as goal

pub loop-v-init : goal.loop-v-init
loop-v-init c =
    let q = c.args.self in
    let rest = members c.into_iter-v-iterator.result.rest in
    let e : rest ≡ members q.candidates = ap (λ r. members r.rest) c.into_iter-v-iterator.ensures.into_iter_gives ∙ ap members c.rising-v-items.ensures in
    (tt, tt, c.or-all.ensures, sweeping_none c.args.few (agreed q) (members q.chosen) (members q.candidates) rest e)

pub loop-v-preserved-then-count-few : goal.loop-v-preserved-then-count-few
loop-v-preserved-then-count-few c =
    let q = c.args.self in
    let s = members q.chosen in
    let fitting = members c.loop-v.fitting in
    let v = c.in-Some.v in
    let inv = c.loop-v.invariant in
    let came = c.in-Some.ensures.steps in
    let agreements : c.count.result ≡ card 128 ((s ∪ fitting) ∩ agreed q v) = c.count.ensures ∙ ap (card 128) (c.and.ensures ∙ ap₂ ◌∩◌ inv.2 c.neighbours.ensures.set) in (
      tt,
      tt,
      c.or-all-then-count-few.ensures,
      sweeping_drops c.args.few (agreed q) s (members q.candidates) (members c.loop-v.v-iterator.rest) (members c.next.new.self.rest) fitting v came.2 inv.3
          (members c.without-fitting.result) came.1.0 came.1.1 (omega (arith, c.if-count-few.true)) c.without-fitting.ensures,
    )

pub loop-v-preserved : goal.loop-v-preserved
loop-v-preserved c =
    let q = c.args.self in
    let s = members q.chosen in
    let fitting = members c.loop-v.fitting in
    let v = c.in-Some.v in
    let inv = c.loop-v.invariant in
    let agreements : c.count.result ≡ card 128 ((s ∪ fitting) ∩ agreed q v) = c.count.ensures ∙ ap (card 128) (c.and.ensures ∙ ap₂ ◌∩◌ inv.2 c.neighbours.ensures.set) in (
      tt,
      tt,
      inv.2,
      sweeping_keeps c.args.few (agreed q) s (members q.candidates) (members c.loop-v.v-iterator.rest) (members c.next.new.self.rest) fitting v
          c.in-Some.ensures.steps.2 inv.3 (omega (arith, c.if-count-few.false)),
    )

pub returns : goal.returns
returns c =
    let q = c.args.self in
    sweeping_all c.args.few (agreed q) (members q.chosen) (members q.candidates) (members c.loop-v.v-iterator.rest) (members c.loop-v.fitting)
    c.in-None.ensures.steps.1 c.loop-v.invariant.3
