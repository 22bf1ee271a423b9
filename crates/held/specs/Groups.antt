-- What the group held means, and what copying it out leaves. Assumes nothing.
use Rattle.std.specs.Prelude.{◌≡◌, ℕ, ◌<◌, ◌≤◌, List, ◌++◌, length, drop, Some, None, Option}
use Rattle.plex.specs.Sets.{Set, card, rising}
use Rattle.marks.specs.Members.{members}
use Rattle.held.specs.declared.group.Held.{Held}

-- the marks of a group
abbrev pub held_set : Held → Set
held_set h = members h.set

-- the marks of a set, rising, come into the first places, and there are so many; or the places are too few, and stay as they were
abbrev pub CopiesInto : Set → List ℕ → List ℕ → Option ℕ → Type 0
CopiesInto s places places' (Some count) = (count ≡ card 128 s) × (count ≤ length places) × (places' ≡ rising 128 s ++ drop count places)
CopiesInto s places places' None = (length places < card 128 s) × (places' ≡ places)
