-- How the marks of a set come one by one. Assumes nothing.
use Rattle.std.specs.Prelude.{◌≡◌, ℕ, List, [], ◌∷◌, Some, None, Option}
use Rattle.plex.specs.Sets.{none, only, ◌∖◌, rising}
use Rattle.marks.specs.Members.{members, Lowest}
use Rattle.marks.specs.declared.set.iter.Rising.{Rising}

-- the marks to come, rising
abbrev pub to_come : Rising → List ℕ
to_come r = rising 128 (members r.rest)

-- the first mark to come is given, the lowest of those to come, and the others are to come then; or there is none and nothing changes
abbrev pub Gives : Rising → Option ℕ → Rising → Type 0
Gives r None r' = (to_come r ≡ []) × (members r.rest ≡ none) × (r' ≡ r)
Gives r (Some u) r' = (to_come r ≡ u ∷ to_come r') × Lowest (members r.rest) (Some u) × (members r'.rest ≡ members r.rest ∖ only u)
