use Rattle.std.proofs.Common.{◌≡◌, ◌<◌, length, sym, ap, ◌∙◌, arith, rules}
use Rattle.plex.specs.Sets.{◌∩◌, ◌∪◌}
use Rattle.marks.specs.Members.{members}
use Rattle.marks.proofs.Four.{holds_within}
use Rattle.ceiling.specs.Formulas.{misses}
use Rattle.rule.proofs.Passing.{all_left, left_part}
use Rattle.branch.specs.Opened.{agreed}
use Rattle.branch.proofs.Bearing.{bearing_none, bearing_spare, bearing_full, bearing_all, bears_none}
use Rattle.branch.proofs.opened.Opened.borne.Goals as goal

pub loop-u-init : goal.loop-u-init
loop-u-init c =
    let q = c.args.self in
    let s = members q.chosen in
    let rest = members c.into_iter-u-iterator.result.rest in
    let e : rest ≡ s = ap (λ r. members r.rest) c.into_iter-u-iterator.ensures.into_iter_gives ∙ ap members c.rising-u-items.ensures in
    (tt, tt, all_left s rest e, bearing_none q.k (agreed q) s (members q.candidates) rest e)

pub returns-then-missed-self : goal.returns-then-missed-self
returns-then-missed-self c =
    let q = c.args.self in
    bears_none q.k (agreed q) (members q.chosen) (members q.candidates) c.in-Some.u (members c.empty.result)
    (c.loop-u.invariant.2 c.in-Some.u c.in-Some.ensures.steps.1.1) (omega (arith, c.misses-missed.ensures.number, c.if-missed-self.true)) c.empty.ensures

pub loop-u-preserved-then-missed-self-2 : goal.loop-u-preserved-then-missed-self-2
loop-u-preserved-then-missed-self-2 c =
    let q = c.args.self in
    let s = members q.chosen in
    let rest = members c.loop-u.u-iterator.rest in
    let rest' = members c.next.new.self.rest in
    let fitting = members c.loop-u.fitting in
    let u = c.in-Some.u in
    let came = c.in-Some.ensures.steps in
    let inv = c.loop-u.invariant in
    let l : length q.candidates.words ≡ 4 = search rules in
    let near = c.or.ensures ∙ ap (λ t. t ∪ s) c.neighbours.ensures.set in (
      tt,
      tt,
      left_part s rest rest' u came.2 inv.2,
      bearing_full q.k (agreed q) s (members q.candidates) (holds_within q.candidates.words l) rest rest' fitting u (inv.2 u came.1.1) came.2 inv.3
          (members c.and-fitting.result) (sym c.misses-missed.ensures.number ∙ c.if-missed-self-2.true) (c.and-fitting.ensures ∙ ap (λ t. fitting ∩ t) near),
    )

pub loop-u-preserved : goal.loop-u-preserved
loop-u-preserved c =
    let q = c.args.self in
    let s = members q.chosen in
    let rest = members c.loop-u.u-iterator.rest in
    let rest' = members c.next.new.self.rest in
    let u = c.in-Some.u in
    let came = c.in-Some.ensures.steps in
    let inv = c.loop-u.invariant in
    let l : length q.candidates.words ≡ 4 = search rules in
    let spare : misses 128 (agreed q) s u < q.k = omega (arith, c.misses-missed.ensures.number, c.if-missed-self.false, c.if-missed-self-2.false) in (
      tt,
      tt,
      left_part s rest rest' u came.2 inv.2,
      bearing_spare q.k (agreed q) s (members q.candidates) (holds_within q.candidates.words l) rest rest' (members c.loop-u.fitting) u (inv.2 u came.1.1) came.2 inv.3 spare,
    )

pub returns : goal.returns
returns c =
    let q = c.args.self in
    bearing_all q.k (agreed q) (members q.chosen) (members q.candidates) (members c.loop-u.u-iterator.rest) (members c.loop-u.fitting)
    c.in-None.ensures.steps.1 c.loop-u.invariant.3
