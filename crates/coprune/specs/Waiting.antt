-- What waits to be looked at again. Assumes nothing.
use Rattle.std.specs.Prelude.{◌≡◌, ℕ, [], length, Some, None, Option, Result}
use Rattle.queue.specs.declared.ring.Queue.{Queue}
use Rattle.queue.specs.declared.ring.QueueRefusal.{QueueRefusal}
use Rattle.queue.specs.Waits.{held, waiting, Put, Took}
use Rattle.coprune.specs.declared.waiting.Waiting.{Waiting}
use Rattle.coprune.specs.declared.waiting.Next.{Next}
use Rattle.coprune.specs.declared.waiting.Next.TheVariants.{Mark, Pair}

abbrev pub NoneWaits : Waiting → Type 0
NoneWaits w = (waiting w.marks ≡ []) × (waiting w.pairs ≡ [])

-- there are as many places as before
pub record SameRoom (w w' : Waiting) : Type 0 where
  pub marks : length (held w'.marks) ≡ length (held w.marks)
  pub pairs : length (held w'.pairs) ≡ length (held w.pairs)

-- x is put behind all that wait; or as many wait as there are places, and nothing changes
abbrev pub PutIfRoom : {T : Type 0} → Queue T → T → Queue T → Type 0
PutIfRoom q x q' = (r : Result ℕ QueueRefusal) × Put q x r q'

-- a mark or a pair is put behind all that wait, if there is room
abbrev pub Adds : Waiting → Next → Waiting → Type 0
Adds w (Mark i) w' = PutIfRoom w.marks i w'.marks × (w'.pairs ≡ w.pairs)
Adds w (Pair p) w' = PutIfRoom w.pairs p w'.pairs × (w'.marks ≡ w.marks)

-- the first mark is taken, or where none waits the first pair; or nothing waits, and nothing changes
abbrev pub TakesNext : Waiting → Option Next → Waiting → Type 0
TakesNext w None w' = Took w.marks None w'.marks × Took w.pairs None w'.pairs
TakesNext w (Some (Mark i)) w' = Took w.marks (Some i) w'.marks × (w'.pairs ≡ w.pairs)
TakesNext w (Some (Pair p)) w' = Took w.marks None w'.marks × Took w.pairs (Some p) w'.pairs
