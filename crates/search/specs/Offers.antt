-- How an offered list is judged. Assumes nothing.
use Rattle.std.specs.Prelude.{◌≡◌, ℕ, List, Ok, Err, Result}
use Rattle.plex.specs.Sets.{among}
use Rattle.marks.specs.declared.set.MarkSet.{MarkSet}
use Rattle.marks.specs.Members.{members}
use Rattle.searching.specs.declared.refusal.SearchRefusal.{SearchRefusal}
use Rattle.searching.specs.States.{State}
use Rattle.searching.specs.Calls.{Takes, RefusesOffer}

-- its set, if it is to be taken
abbrev pub Judged : State → List ℕ → Result MarkSet SearchRefusal → Type 0
Judged s list (Ok group) = Takes s list × (members group ≡ among list)
Judged s list (Err e) = RefusesOffer s list e
