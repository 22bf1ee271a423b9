use Rattle.std.proofs.Common.{◌≡◌, ℕ, min, List, Some, None, Option, get_or, slice_get, refl, sym, ap, ◌∙◌, subst, arith}
use Rattle.std.proofs.lemmas.Option.{get_or_from_slice_get}
use Rattle.plex.specs.Sets.{◌∩◌}
use Rattle.plex.proofs.Count.{card_le}
use Rattle.marks.specs.Members.{members}
use Rattle.rule.specs.declared.asked.Asked.{Asked}
use Rattle.rule.specs.declared.pair.room.Room.{Room}
use Rattle.rule.specs.Questions.{agreed}
use Rattle.rule.specs.Rooms.{IsRoom, number_of_two}
use Rattle.rule.proofs.Passing.{all_left, left_part, lowest_none, lowest_more, lowest_all}
use Rattle.rule.proofs.Plexes.{agreements_counted}
use Rattle.rule.proofs.Pairs.{agree_with_both}
use Rattle.rule.proofs.asked.Asked.lowered.Goals as goal

-- what is read from the table is the room
known : (q : Asked) (rooms : List Room) (u : ℕ) (other : Room) → IsRoom q u (slice_get rooms u) → IsRoom q u (Some (get_or rooms u other))
known q rooms u other h = at (slice_get rooms u) refl h
  where
    at : (o : Option Room) → slice_get rooms u ≡ o → IsRoom q u o → IsRoom q u (Some (get_or rooms u other))
    at None e i = absurd i
    at (Some r) e i = subst (λ x. IsRoom q u (Some x)) (sym (get_or_from_slice_get rooms u r other e)) i

pub loop-v-init : goal.loop-v-init
loop-v-init c =
    let p = members c.args.partners.rest in
    let rest = members c.into_iter-v-iterator.result.rest in
    let e : rest ≡ p = ap (λ r. members r.rest) c.into_iter-v-iterator.ensures.into_iter_gives in (
      tt,
      tt,
      all_left p rest e,
      lowest_none p rest (number_of_two c.args.self c.args.u) c.args.start e,
    )

pub overflow_add-count : goal.overflow_add-count
overflow_add-count c =
    let here = get_or c.args.rooms.now c.args.u c.index-rooms-u.result in
    let there = get_or c.args.rooms.now c.in-Some.v c.index-rooms-v.result in
    omega (arith, c.at_least.ensures, c.count.ensures, card_le 128 (members c.args.self.chosen), here.few, here.marks, there.few, there.marks)

pub overflow_add-count-then-count-at_least-3 : goal.overflow_add-count-then-count-at_least-3
overflow_add-count-then-count-at_least-3 c =
    let here = get_or c.args.rooms.now c.args.u c.index-rooms-u.result in
    let there = get_or c.args.rooms.now c.in-Some.v c.index-rooms-v.result in
    omega (
      arith,
      c.count-then-count-at_least.ensures,
      c.count-both.ensures,
      card_le 128 (members c.args.self.chosen),
      card_le 128 (members c.and.result),
      here.few,
      there.few,
    )

pub loop-v-preserved-then-count-at_least : goal.loop-v-preserved-then-count-at_least
loop-v-preserved-then-count-at_least c =
    let q = c.args.self in
    let p = members c.args.partners.rest in
    let u = c.args.u in
    let v = c.in-Some.v in
    let rest = members c.loop-v.v-iterator.rest in
    let rest' = members c.next.new.self.rest in
    let came = c.in-Some.ensures.steps in
    let inv = c.loop-v.invariant in
    let partner = inv.2 v came.1.1 in
    let here = known q c.args.rooms.now u c.index-rooms-u.result (c.requires.rooms u c.requires.chosen) in
    let there = known q c.args.rooms.now v c.index-rooms-v.result (c.requires.rooms v (c.requires.partners v partner)) in
    let near = c.and-near.ensures ∙ ap (λ t. members q.others ∩ t) c.neighbours.ensures.set in
    let both = agreements_counted (agreed q) (members q.others ∩ agreed q u) v c.neighbours-then-count-at_least.ensures.set (c.and.ensures ∙ ap (λ t. t ∩ members c.neighbours-then-count-at_least.result) near) c.count-both.ensures in
    let number : c.min-smallest.result ≡ min c.loop-v.smallest (number_of_two q u v) =
    omega (arith, c.min-smallest.ensures, c.count-then-count-at_least.ensures, here.0, there.0, both) in (
      tt,
      tt,
      left_part p rest rest' v came.2 inv.2,
      lowest_more p rest rest' (number_of_two q u) c.args.start c.loop-v.smallest v c.min-smallest.result partner came.2 number inv.3,
    )

pub loop-v-preserved : goal.loop-v-preserved
loop-v-preserved c =
    let q = c.args.self in
    let p = members c.args.partners.rest in
    let u = c.args.u in
    let v = c.in-Some.v in
    let rest = members c.loop-v.v-iterator.rest in
    let rest' = members c.next.new.self.rest in
    let came = c.in-Some.ensures.steps in
    let inv = c.loop-v.invariant in
    let partner = inv.2 v came.1.1 in
    let here = known q c.args.rooms.now u c.index-rooms-u.result (c.requires.rooms u c.requires.chosen) in
    let there = known q c.args.rooms.now v c.index-rooms-v.result (c.requires.rooms v (c.requires.partners v partner)) in
    let number : c.loop-v.smallest ≡ min c.loop-v.smallest (number_of_two q u v) =
    omega (
      arith,
      c.if-count-at_least.false,
      c.at_least.ensures,
      c.count.ensures,
      c.count-in-loop-v.ensures,
      here.0,
      here.1,
      there.0,
      there.1,
      agree_with_both 128 (members q.others) (agreed q u) (agreed q v),
    ) in (
      tt,
      tt,
      left_part p rest rest' v came.2 inv.2,
      lowest_more p rest rest' (number_of_two q u) c.args.start c.loop-v.smallest v c.loop-v.smallest partner came.2 number inv.3,
    )

pub returns : goal.returns
returns c =
    lowest_all (members c.args.partners.rest) (members c.loop-v.v-iterator.rest) (number_of_two c.args.self c.args.u) c.args.start c.loop-v.smallest
    c.in-None.ensures.steps.1 c.loop-v.invariant.3
