-- What the steps of co-pruning do. Assumes nothing.
use Rattle.std.specs.Prelude.{◌≡◌, ℕ, ◌<◌, Bool, true, false, ◌&&◌, List}
use Rattle.plex.specs.Meaning.{Meaning}
use Rattle.plex.specs.Sets.{Set}
use Rattle.pruning.specs.Pruned.{Kept, Largest, offends, agreements_at_ends}
use Rattle.coprune.specs.declared.limits.Limits.{Limits}
use Rattle.coprune.specs.declared.waiting.Waiting.{Waiting}
use Rattle.coprune.specs.Waiting.{SameRoom}

-- what a kind of sheets says of them: what each means, and what striking never changes of it
abbrev pub Kind : Type 0 → Type 0
Kind S = record { meaning : S → Meaning; lasting : S → List ℕ }

-- what a sheet means after is related to what it meant before, and what striking never changes did not change
pub record Strikes {S : Type 0} (kind : Kind S) (related : Meaning → Meaning → Type 0) (before after : S) : Type 0 where
  pub means : related (kind.meaning before) (kind.meaning after)
  pub lasts : kind.lasting after ≡ kind.lasting before

-- m' is what is left of m after some agreements that may not stay were struck
pub record Wears (l : Limits) (m m' : Meaning) : Type 0 where
  pub marks : m'.marks ≡ m.marks
  pub kept : Kept m.marks l.ends l.shared m.agrees m'.agrees

abbrev pub at_ends : Meaning → ℕ
at_ends m = agreements_at_ends m.marks m.agrees

-- an agreement that may not stay
abbrev pub bad : Limits → Meaning → ℕ → ℕ → Bool
bad l m i j = m.agrees i j && offends m.marks l.ends l.shared m.agrees i j

-- only agreements that may not stay were struck; where it says so, one was, and fewer are left
pub record Worn (l : Limits) (was_struck : Bool) (m m' : Meaning) : Type 0 where
  pub wears : Wears l m m'
  pub fewer : was_struck ≡ true → at_ends m' < at_ends m

-- the agreement of i and j was looked at, and struck if it may not stay
pub record Looks (l : Limits) (i j : ℕ) (was_struck : Bool) (m m' : Meaning) : Type 0 where
  pub worn : Worn l was_struck m m'
  pub said : was_struck ≡ bad l m i j

-- the agreements of i with the marks of a set were looked at
pub record LooksAmong (l : Limits) (i : ℕ) (others : Set) (was_struck : Bool) (m m' : Meaning) : Type 0 where
  pub worn : Worn l was_struck m m'
  pub fine : was_struck ≡ false → (j : ℕ) → others j ≡ true → bad l m i j ≡ false

-- all agreements were looked at
pub record Sweeps (l : Limits) (was_struck : Bool) (m m' : Meaning) : Type 0 where
  pub worn : Worn l was_struck m m'
  pub fine : was_struck ≡ false → (m' ≡ m) × ((i j : ℕ) → bad l m i j ≡ false)

-- after a look nothing else has changed where no agreement was struck, and as many may wait as before
pub record Steps {S : Type 0} (kind : Kind S) (related : Bool → Meaning → Meaning → Type 0) (s : S) (w : Waiting) (was_struck : Bool) (s' : S)
    (w' : Waiting) : Type 0 where
  pub strikes : Strikes kind (related was_struck) s s'
  pub idle : was_struck ≡ false → (s' ≡ s) × (w' ≡ w)
  pub room : SameRoom w w'

-- no agreement is left that may not stay, and none is struck that may
pub record Ends (l : Limits) (m m' : Meaning) : Type 0 where
  pub marks : m'.marks ≡ m.marks
  pub largest : Largest m.marks l.ends l.shared m.agrees m'.agrees
