-- The place written is the next one, before the end or around it; where all places are taken, nothing is written.
use Rattle.std.proofs.Common.{◌≡◌, ℕ, length, set, refl, ap, ◌∙◌, arith, length-set}
use Rattle.queue.specs.Waits.{next_place}
use Rattle.queue.proofs.Lengths.{waiting_length}
use Rattle.queue.proofs.Rings.{next_ahead, next_around, next_more, push_next}
use Rattle.queue.proofs.ring.Queue.push.Goals as goal
use Rattle.queue.proofs.ring.Queue.push.Goals.{then-self-room, else-self-room}

pub returns-then-self-all : goal.returns-then-self-all
returns-then-self-all g c = (waiting_length c.args.self.now ∙ c.if-self-all.true, refl)

pub returns : goal.returns
returns g c =
    let q = c.args.self.now in
    let ps = q.places.now in
    let x = c.args.x in
    let next : c.if-self-room.at ≡ next_place q =
    elim c.if-self-room.branch [
      | then-self-room w ↦ w.at-is ∙ next_ahead q.head q.len (length ps) (omega arith)
      | else-self-room w ↦ w.at-is ∙ next_around q.head q.len (length ps) q.inside (omega arith) (omega arith)
    ] in (
      refl,
      omega (arith, waiting_length q),
      rw next (push_next ps q.head q.len x q.inside (omega arith)),
      ap (λ (i : ℕ). set ps i x) next,
      rw length-set (next_more q.head q.len (length ps)),
      refl,
    )
