use Rattle.std.proofs.Common.{◌≡◌, ◌-◌, ◌<◌, length, sym, ap, ◌∙◌, arith, rules}
use Rattle.std.proofs.lemmas.List.{length-set}
use Rattle.marks.specs.Members.{members}
use Rattle.rule.proofs.Passing.{left_part}
use Rattle.first.specs.Degrees.{degree}
use Rattle.first.proofs.Writing.{lowered_none, not_yet, lowered_more, lowered_all}
use Rattle.first.proofs.degrees.lower.Goals as goal

pub loop-v-init : goal.loop-v-init
loop-v-init c =
    let s = members c.args.marks in
    let all : members c.into_iter-v-iterator.result.rest ≡ s = ap (λ r. members r.rest) c.into_iter-v-iterator.ensures.into_iter_gives ∙ ap members c.rising-v-items.ensures in
    (tt, tt, (λ i t. sym (ap (λ r. r i) all) ∙ t), search rules, lowered_none c.args.degrees.now s (members c.into_iter-v-iterator.result.rest) all)

pub overflow_sub-degrees : goal.overflow_sub-degrees
overflow_sub-degrees c =
    let came = c.in-Some.ensures.steps in
    let v = c.in-Some.v in
    let inv = c.loop-v.invariant in
    omega (arith, not_yet c.args.degrees.now c.loop-v.degrees (members c.args.marks) (members c.loop-v.v-iterator.rest) v came.1.1 inv.4, c.requires v (inv.2 v came.1.1))

pub loop-v-preserved : goal.loop-v-preserved
loop-v-preserved c =
    let s = members c.args.marks in
    let rest = members c.loop-v.v-iterator.rest in
    let rest' = members c.next.new.self.rest in
    let xs = c.loop-v.degrees in
    let came = c.in-Some.ensures.steps in
    let v = c.in-Some.v in
    let inv = c.loop-v.invariant in
    let in_table : v < length xs = omega (arith, came.1.0, inv.3) in (
      tt,
      tt,
      left_part s rest rest' v came.2 inv.2,
      length-set xs v (degree xs v - 1) ∙ inv.3,
      lowered_more c.args.degrees.now xs s rest rest' v in_table (inv.2 v came.1.1) came.1.1 came.2 inv.4,
    )

pub returns : goal.returns
returns c =
    lowered_all c.args.degrees.now c.loop-v.degrees (members c.args.marks) (members c.loop-v.v-iterator.rest) c.in-None.ensures.steps.1 c.loop-v.invariant.4
