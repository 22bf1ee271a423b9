use Rattle.std.proofs.Common.{◌≡◌, ℕ, ◌<◌, List, Some, length, slice_get, set, sym, ap, ◌∙◌, subst, inl, inr, arith}
use Rattle.std.proofs.lemmas.List.{get_or-set_same, get_or-set_other, length-set}
use Rattle.std.proofs.lemmas.Option.{slice_get-get_or, slice_get_past}
use Rattle.std.proofs.lemmas.Bool.{cases_lt}
use Rattle.plex.specs.Sets.{Set, ◌∖◌, only}
use Rattle.plex.proofs.Count.{card_le}
use Rattle.marks.specs.Members.{members}
use Rattle.rule.specs.declared.asked.Asked.{Asked}
use Rattle.rule.specs.declared.pair.room.Room.{Room}
use Rattle.rule.specs.Questions.{agreed}
use Rattle.rule.specs.Rooms.{IsRoom}
use Rattle.rule.proofs.Passing.{Passed, all_left, left_part, passed_nothing, passed_more, passed_changes, passed_all}
use Rattle.rule.proofs.Plexes.{MissesFew, misses_counted, agreements_counted, plex_by_misses, no_plex}
use Rattle.rule.proofs.asked.Asked.rooms.Goals as goal

-- one place of the table is written
module _ (rooms : List Room) (u : ℕ) (room : Room) where
  same : u < length rooms → slice_get (set rooms u room) u ≡ Some room
  same l = slice_get-get_or (set rooms u room) u room (omega (arith, length-set rooms u room)) ∙ ap Some (get_or-set_same rooms u room room l)

  other : (v : ℕ) → (v ≡ u → ⊥) → slice_get rooms v ≡ slice_get (set rooms u room) v
  other v d =
      elim (cases_lt v (length rooms)) [
        | inl l ↦ slice_get-get_or rooms v room l ∙ sym (slice_get-get_or (set rooms u room) v room (omega (arith, length-set rooms u room)) ∙ ap Some (get_or-set_other rooms u v room room d))
        | inr l ↦ slice_get_past rooms v l ∙ sym (slice_get_past (set rooms u room) v (omega (arith, length-set rooms u room)))
      ]

written : (q : Asked) (rooms : List Room) (u : ℕ) (room : Room) (s rest rest' : Set) → rest' ≡ rest ∖ only u → u < length rooms → IsRoom q u (Some room) →
    Passed (λ v. IsRoom q v (slice_get rooms v)) s rest → Passed (λ v. IsRoom q v (slice_get (set rooms u room) v)) s rest'
written q rooms u room s rest rest' e l i h =
    passed_changes (λ v. IsRoom q v (slice_get rooms v)) (λ v. IsRoom q v (slice_get (set rooms u room) v)) s rest rest' u e
    (subst (IsRoom q u) (sym (same rooms u room l)) i)
    (λ v d. subst (IsRoom q v) (other rooms u room v d)) h

pub loop-u-init : goal.loop-u-init
loop-u-init c =
    let q = c.args.self in
    let s = members q.chosen in
    let rest = members c.into_iter-u-iterator.result.rest in
    let e : rest ≡ s = ap (λ r. members r.rest) c.into_iter-u-iterator.ensures.into_iter_gives ∙ ap members c.rising-u-items.ensures in (
      tt,
      tt,
      all_left s rest e,
      omega arith,
      passed_nothing (MissesFew q.k (agreed q) s) s rest e,
      passed_nothing _ s rest e,
    )

pub returns-then-missed-self : goal.returns-then-missed-self
returns-then-missed-self c =
    let q = c.args.self in
    let s = members q.chosen in
    let u = c.in-Some.u in
    let missed = misses_counted (agreed q) s u c.neighbours-row.ensures.set c.minus.ensures c.count-missed.ensures in
    no_plex q.k (agreed q) s u (c.loop-u.invariant.2 u c.in-Some.ensures.steps.1.1) (omega (arith, missed, c.if-missed-self.true))

pub invariant_of-rooms-in-loop-u-clause-marks : goal.invariant_of-rooms-in-loop-u-clause-marks
invariant_of-rooms-in-loop-u-clause-marks c = omega (arith, c.count.ensures, card_le 128 (members c.and.result))

pub loop-u-preserved : goal.loop-u-preserved
loop-u-preserved c =
    let q = c.args.self in
    let s = members q.chosen in
    let rest = members c.loop-u.u-iterator.rest in
    let rest' = members c.next.new.self.rest in
    let came = c.in-Some.ensures.steps in
    let u = c.in-Some.u in
    let inv = c.loop-u.invariant in
    let missed = misses_counted (agreed q) s u c.neighbours-row.ensures.set c.minus.ensures c.count-missed.ensures in
    let near = agreements_counted (agreed q) (members q.others) u c.neighbours-row.ensures.set c.and.ensures c.count.ensures in (
      tt,
      tt,
      left_part s rest rest' u came.2 inv.2,
      length-set _ _ _ ∙ inv.3,
      passed_more (MissesFew q.k (agreed q) s) s rest rest' u came.2 (came.1.0, omega (arith, missed, c.if-missed-self.false)) inv.4,
      written q c.loop-u.rooms u _ s rest rest' came.2 (omega (arith, came.1.0, inv.3)) (omega (arith, missed), near) inv.5,
    )

pub returns : goal.returns
returns c =
    let q = c.args.self in
    let s = members q.chosen in
    let rest = members c.loop-u.u-iterator.rest in
    let over = c.in-None.ensures.steps.1 in
    let inv = c.loop-u.invariant in (
      plex_by_misses q.k (agreed q) s (passed_all (MissesFew q.k (agreed q) s) s rest over inv.4),
      passed_all (λ u. IsRoom q u (slice_get c.loop-u.rooms u)) s rest over inv.5,
    )
