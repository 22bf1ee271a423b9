-- What waits, and how much is left to do.
use Rattle.std.proofs.Common.{◌≡◌, ℕ, ◌+◌, ◌*◌, ◌<◌, ◌≤◌, Bool, Some, length, ap, ap₂, inl, inr, arith}
use Rattle.std.proofs.lemmas.Bool.{cases_Bool}
use Rattle.queue.specs.declared.ring.Queue.{Queue}
use Rattle.queue.specs.Waits.{held, waiting}
use Rattle.queue.proofs.Lengths.{waiting_fits}
use Rattle.plex.specs.Meaning.{Meaning}
use Rattle.pruning.proofs.Keeping.{work_falls}
use Rattle.coprune.specs.declared.limits.Limits.{Limits}
use Rattle.coprune.specs.declared.waiting.Waiting.{Waiting}
use Rattle.coprune.specs.declared.waiting.Next.{Next}
use Rattle.coprune.specs.declared.waiting.Next.TheVariants.{Mark, Pair}
use Rattle.coprune.specs.Waiting.{TakesNext, SameRoom}
use Rattle.coprune.specs.Coprune.{Kind, Worn, Steps, at_ends}
use Rattle.coprune.proofs.Wearing.{wears_fewer}

-- how many may wait, and how many do
abbrev pub room : Waiting → ℕ
room w = length (held w.marks) + length (held w.pairs)

abbrev pub how_many : Waiting → ℕ
how_many w = length (waiting w.marks) + length (waiting w.pairs)

-- what is left to do at most: either an agreement is struck, and as many may wait as there are places, or fewer wait
abbrev pub work : Meaning → Waiting → ℕ
work m w = at_ends m * (room w + 1) + how_many w

pub same_places : (w w' : Waiting) → SameRoom w w' → room w' ≡ room w
same_places w w' r = ap₂ ◌+◌ r.marks r.pairs

-- one that waited was taken: one fewer waits, in as many places
took : (w w' : Waiting) (next : Next) → TakesNext w (Some next) w' → (room w' ≡ room w) × (how_many w ≡ how_many w' + 1)
took w w' (Mark i) t = (
  omega (arith, ap length t.0.1, ap (λ (q : Queue _). length (held q)) t.1),
  omega (arith, ap length t.0.0, ap (λ (q : Queue _). length (waiting q)) t.1),
)
took w w' (Pair p) t = (
  omega (arith, ap (λ (q : Queue _). length (held q)) t.0.1, ap length t.1.1),
  omega (arith, ap (λ (q : Queue _). length (waiting q)) t.0.1, ap length t.1.0),
)

-- it was looked at: an agreement was struck, or nothing else changed
pub work_less : {S : Type 0} (kind : Kind S) (l : Limits) (s s' : S) (w w' w'' : Waiting) (next : Next) (r : Bool) → TakesNext w (Some next) w' →
    Steps kind (Worn l) s w' r s' w'' → work (kind.meaning s') w'' < work (kind.meaning s) w
work_less kind l s s' w w' w'' next r t p =
    let m = kind.meaning s in
    let m' = kind.meaning s' in
    let worn = p.strikes.means in
    let one = took w w' next t in
    let same : room w'' ≡ room w = omega (arith, same_places w' w'' p.room) in
    let fits : how_many w'' ≤ room w = omega (arith, waiting_fits w''.marks, waiting_fits w''.pairs) in
    work_falls (at_ends m) (at_ends m') (room w) (room w'') (how_many w) (how_many w'') same (wears_fewer l m m' worn.wears) fits
    (elim (cases_Bool r) [ inl e ↦ inl (worn.fewer e) | inr e ↦ inr (omega (arith, ap how_many (p.idle e).1)) ])
