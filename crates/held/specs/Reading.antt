-- What it is to read a list as a set of marks. Assumes nothing.
use Rattle.std.specs.Prelude.{◌≡◌, ℕ, min, List, Some, None, Option}
use Rattle.plex.specs.Sets.{among}
use Rattle.marks.specs.declared.set.MarkSet.{MarkSet}
use Rattle.marks.specs.Members.{members}
use Rattle.searching.specs.Calls.{RisingMarks}

-- a strictly rising list of marks below n and below 128 gives the set of its marks, and no other list gives one
abbrev pub ReadsList : ℕ → List ℕ → Option MarkSet → Type 0
ReadsList n list None = RisingMarks (min n 128) list → ⊥
ReadsList n list (Some set) = RisingMarks (min n 128) list × (members set ≡ among list)
