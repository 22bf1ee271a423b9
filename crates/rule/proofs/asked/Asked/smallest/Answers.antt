use Rattle.std.proofs.Common.{arith, ap}
use Rattle.plex.specs.Sets.{◌∩◌}
use Rattle.plex.proofs.Count.{card_le}
use Rattle.marks.specs.Members.{members}
use Rattle.marks.proofs.Lowering.{fewer_without}
use Rattle.rule.specs.Passes.{nothing_yet}
use Rattle.rule.specs.Questions.{agreed}
use Rattle.rule.specs.Rooms.{number_of_two}
use Rattle.rule.proofs.Passing.{all_left, left_part}
use Rattle.rule.proofs.Pairs.{pair_both_ways, two_none, two_more, two_all}
use Rattle.rule.proofs.asked.Asked.smallest.Goals as goal

pub loop-u-init : goal.loop-u-init
loop-u-init c =
    let q = c.args.self in
    let s = members q.chosen in
    let e = ap members c.rising-later.ensures in
    (all_left s _ e, two_none s _ (number_of_two q) nothing_yet e)

pub lowered-smallest-requires : goal.lowered-smallest-requires
lowered-smallest-requires c =
    let came = c.in-Some.ensures.steps in
    let part = c.loop-u.invariant.0 in
    record {
      chosen = part c.in-Some.u came.1.1;
      partners = left_part _ _ _ c.in-Some.u came.2 part;
      rooms = c.requires.rooms;
    }

pub loop-u-smaller : goal.loop-u-smaller
loop-u-smaller c =
    let came = c.in-Some.ensures.steps in
    fewer_without c.loop-u.later.rest c.next.new.self.rest c.in-Some.u came.1.0 came.1.1 came.2

pub loop-u-preserved : goal.loop-u-preserved
loop-u-preserved c =
    let q = c.args.self in
    let s = members q.chosen in
    let rest = members c.loop-u.later.rest in
    let rest' = members c.next.new.self.rest in
    let came = c.in-Some.ensures.steps in
    let u = c.in-Some.u in
    let inv = c.loop-u.invariant in (
      left_part s rest rest' u came.2 inv.0,
      two_more s rest rest' (number_of_two q) nothing_yet c.loop-u.smallest u c.lowered-smallest.result
          (pair_both_ways 128 q.k (agreed q) s (members q.others)) inv.0 came.1.1 came.2 c.lowered-smallest.ensures inv.1,
    )

pub returns : goal.returns
returns c =
    let q = c.args.self in
    let s = members q.chosen in
    two_all s (members c.loop-u.later.rest) (number_of_two q) nothing_yet c.loop-u.smallest c.in_default.ensures.steps.1 c.requires.two
    (λ u v. omega (arith, c.requires.k, card_le 128 s, card_le 128 (members q.others ∩ agreed q u ∩ agreed q v))) c.loop-u.invariant.1
