use Rattle.std.proofs.Common.{◌≡◌, ℕ, ◌<◌, ◌++◌, length, take, set, sym, ap, ap₂, ◌∙◌, inl, arith}
use Rattle.std.proofs.lemmas.List.{length-set}
use Rattle.plex.specs.Sets.{rising}
use Rattle.plex.proofs.Count.{card_le}
use Rattle.plex.proofs.Rising.{length_rising}
use Rattle.marks.specs.Members.{members}
use Rattle.marks.specs.Rising.{to_come}
use Rattle.held.proofs.Listing.{listed_fewer, listed_more, listed_all}
use Rattle.held.proofs.group.Held.of.Goals as goal

-- a mark that comes has a place
room : (c : goal.In-Some) → c.loop-place.place-iterator.count < 128
room c =
    let s = members c.args.set in
    let inv = c.loop-place.invariant in
    let count = c.loop-place.place-iterator.count in
    omega (
      arith,
      listed_fewer c.loop-place.marks (to_come c.loop-place.place-iterator.iter) (to_come c.next.new.self.iter) (rising 128 s) count c.in-Some.mark
          (omega arith) c.in-Some.ensures.steps.0.0 inv.4,
      length_rising 128 s,
      card_le 128 s,
    )

pub bounds-marks-place : goal.bounds-marks-place
bounds-marks-place c = omega (arith, room c, c.in-Some.ensures.steps.1)

pub loop-place-preserved : goal.loop-place-preserved
loop-place-preserved c =
    let inv = c.loop-place.invariant in
    let came = c.in-Some.ensures.steps in
    let marks = c.loop-place.marks in
    let place = c.in-Some.place in
    let count = c.loop-place.place-iterator.count in
    let free : count < length marks = omega (arith, inv.2, room c) in (
      (tt, tt, inl (omega (arith, room c, came, c.next.new.self.iter.rest.counted, card_le 128 (members c.next.new.self.iter.rest)))),
      tt,
      length-set marks place c.in-Some.mark ∙ inv.2,
      omega (arith, room c, came),
      ap₂ (λ (m p : ℕ). take m (set marks p c.in-Some.mark) ++ to_come c.next.new.self.iter) came.2 came.1
          ∙ listed_more marks (to_come c.loop-place.place-iterator.iter) (to_come c.next.new.self.iter) (rising 128 (members c.args.set)) count c.in-Some.mark free came.0.0 inv.4,
    )

pub invariant_of-result : goal.invariant_of-result
invariant_of-result c =
    let set = c.args.set in
    let s = members set in
    let inv = c.loop-place.invariant in
    let marks = c.loop-place.marks in
    let count : set.count ≡ length (rising 128 s) = set.counted ∙ sym (length_rising 128 s) in record {
      listed =
          ap (λ (m : ℕ). take m marks) count
          ∙ listed_all marks (to_come c.loop-place.place-iterator.iter) (rising 128 s) c.loop-place.place-iterator.count (omega arith) c.in-None.ensures.steps.0.0 inv.4;
    }
