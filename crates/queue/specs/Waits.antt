-- What waits in a queue, and what a push and a pop do to it.
use Rattle.std.specs.Prelude.{◌≡◌, ℕ, ◌+◌, ◌%◌, ◌<◌, List, [], ◌∷◌, ◌++◌, length, take, drop, Some, None, Ok, Err, Option, Result, slice_set}
use Rattle.queue.specs.declared.ring.Queue.{Queue}
use Rattle.queue.specs.declared.ring.QueueRefusal.{QueueRefusal}
use Rattle.queue.specs.declared.ring.QueueRefusal.TheVariants.{Full}

-- the number of the refusal
abbrev pub number : QueueRefusal → ℕ
number Full = 45

-- n elements from place h on, around the end
abbrev pub around : {T : Type 0} → List T → ℕ → ℕ → List T
around ps h n = take n (drop h ps ++ ps)

-- what the places hold
abbrev pub held : {T : Type 0} → Queue T → List T
held q = q.places.now

-- those that wait, the first to come first
abbrev pub waiting : {T : Type 0} → Queue T → List T
waiting q = around (held q) q.head q.len

-- the place behind all that wait, around the end
abbrev pub next_place : {T : Type 0} → Queue T → ℕ
next_place q = (q.head + q.len) % length (held q)

-- x is put behind all that wait, into the next place and no other, and the place after it is the next; or as many wait as there
-- are places, and nothing changes; the queue stays over the same lent places
abbrev pub Put : {T : Type 0} → Queue T → T → Result ℕ QueueRefusal → Queue T → Type 0
Put q x (Ok v) q' =
    (v ≡ 0)
    × (length (waiting q) < length (held q))
    × (waiting q' ≡ waiting q ++ x ∷ [])
    × (held q' ≡ slice_set (held q) (next_place q) x)
    × (next_place q' ≡ (next_place q + 1) % length (held q))
    × (q'.places.ghost_name ≡ q.places.ghost_name)
Put q x (Err Full) q' = (length (waiting q) ≡ length (held q)) × (q' ≡ q)

-- the first that waits is taken, no place is written, and the next place stays; or none waits, and nothing changes;
-- the queue stays over the same lent places
abbrev pub Took : {T : Type 0} → Queue T → Option T → Queue T → Type 0
Took q (Some x) q' =
    (waiting q ≡ x ∷ waiting q')
    × (held q' ≡ held q)
    × (next_place q' ≡ next_place q)
    × (q'.places.ghost_name ≡ q.places.ghost_name)
Took q None q' = (waiting q ≡ []) × (q' ≡ q)
