-- The first that waits stands at the head, or at the start where the head is at the end.
use Rattle.std.proofs.Common.{◌≡◌, ℕ, ◌+◌, ◌-◌, ◌<◌, ◌%◌, length, sym, refl, ap, ◌∙◌, arith}
use Rattle.queue.specs.Waits.{around}
use Rattle.queue.proofs.Rings.{next_less, next_end, pop_front, pop_around}
use Rattle.queue.proofs.ring.Queue.pop.Goals as goal
use Rattle.queue.proofs.ring.Queue.pop.Goals.{then-self, else-self}

pub returns : goal.returns
returns g c =
    let q = c.args.self.now in
    let ps = q.places.now in
    let x = c.index-self-head.result in
    let some : 0 < q.len = omega (arith, c.in_ok-left.ensures) in
    let left : q.len - 1 ≡ c.in_ok-left.left = omega (arith, c.in_ok-left.ensures) in (
      rw (← left) (elim c.if-self.branch [
        | then-self w ↦
            ap (λ (k : ℕ). around ps k q.len) w.if-self.true ∙ pop_around ps q.len q.fits
            ∙ rw w.head-is (pop_front ps 0 q.len x (omega arith) some)
        | else-self w ↦ rw w.head-is (pop_front ps q.head q.len x (omega arith) some)
      ]),
      refl,
      rw (← left) (elim c.if-self.branch [
        | then-self w ↦
            rw w.head-is (next_less 0 q.len (length ps) some ∙ next_end q.len (length ps))
            ∙ ap (λ (h : ℕ). (h + q.len) % length ps) (sym w.if-self.true)
        | else-self w ↦ rw w.head-is (next_less q.head q.len (length ps) some)
      ]),
      refl,
    )
