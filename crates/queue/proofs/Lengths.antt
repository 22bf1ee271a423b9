-- How many wait: never more than there are places, and how a push and a pop change it.
use Rattle.std.proofs.Common.{◌≡◌, ℕ, ◌+◌, ◌-◌, ◌≤◌, [], ◌∷◌, length, Some, None, Ok, Err, Option, Result, ap, ◌∙◌, arith, length-append, length-set}
use Rattle.queue.specs.declared.ring.Queue.{Queue}
use Rattle.queue.specs.declared.ring.QueueRefusal.{QueueRefusal}
use Rattle.queue.specs.declared.ring.QueueRefusal.TheVariants.{Full}
use Rattle.queue.specs.Waits.{held, waiting, next_place, Put, Took}
use Rattle.queue.proofs.Rings.{around_length}

-- the length that the queue keeps is how many wait
pub waiting_length : {T : Type 0} (q : Queue T) → length (waiting q) ≡ q.len
waiting_length q = around_length (held q) q.head q.len q.fits

-- never more wait than there are places
pub waiting_fits : {T : Type 0} (q : Queue T) → length (waiting q) ≤ length (held q)
waiting_fits q = omega (arith, waiting_length q, q.fits)

-- a push that is accepted makes one more wait
pub put_more : {T : Type 0} (q : Queue T) (x : T) (v : ℕ) (q' : Queue T) → Put q x (Ok v) q' →
    length (waiting q') ≡ length (waiting q) + 1
put_more q x v q' p = ap length p.2 ∙ length-append (waiting q) (x ∷ [])

-- a push makes at most one more wait
pub put_length : {T : Type 0} (q : Queue T) (x : T) (r : Result ℕ QueueRefusal) (q' : Queue T) → Put q x r q' →
    length (waiting q') ≤ length (waiting q) + 1
put_length q x (Ok v) q' p = omega (arith, put_more q x v q' p)
put_length q x (Err Full) q' p = omega (arith, ap (λ (k : Queue _). length (waiting k)) p.1)

-- a push leaves as many places as there were
pub put_places : {T : Type 0} (q : Queue T) (x : T) (r : Result ℕ QueueRefusal) (q' : Queue T) → Put q x r q' →
    length (held q') ≡ length (held q)
put_places q x (Ok v) q' p = ap length p.3 ∙ length-set (held q) (next_place q) x
put_places q x (Err Full) q' p = ap (λ (k : Queue _). length (held k)) p.1

-- a pop makes one less wait, where any waits
pub took_length : {T : Type 0} (q : Queue T) (r : Option T) (q' : Queue T) → Took q r q' →
    length (waiting q') ≡ length (waiting q) - 1
took_length q (Some x) q' p = omega (arith, ap length p.0)
took_length q None q' p = omega (arith, ap length p.0, ap (λ (k : Queue _). length (waiting k)) p.1)

-- a pop leaves the places as they were
pub took_places : {T : Type 0} (q : Queue T) (r : Option T) (q' : Queue T) → Took q r q' → held q' ≡ held q
took_places q (Some x) q' p = p.1
took_places q None q' p = ap (λ (k : Queue _). held k) p.1
