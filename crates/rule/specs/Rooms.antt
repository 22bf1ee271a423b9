-- What is known of each chosen mark. Assumes nothing.
use Rattle.std.specs.Prelude.{◌≡◌, ℕ, true, List, Some, None, Option, slice_get}
use Rattle.plex.specs.Sets.{card, ◌∩◌, Kplex}
use Rattle.ceiling.specs.Formulas as formula
use Rattle.marks.specs.Members.{members}
use Rattle.rule.specs.declared.asked.Asked.{Asked}
use Rattle.rule.specs.declared.pair.room.Room.{Room}
use Rattle.rule.specs.Questions.{agreed}

-- the number of two chosen marks
abbrev pub number_of_two : Asked → ℕ → ℕ → ℕ
number_of_two q = formula.pair_number 128 q.k (agreed q) (members q.chosen) (members q.others)

-- how many more marks u may miss, and how many of the others agree with it
abbrev pub IsRoom : Asked → ℕ → Option Room → Type 0
IsRoom q u None = ⊥
IsRoom q u (Some room) = (room.spare ≡ formula.spare 128 q.k (agreed q) (members q.chosen) u) × (room.near ≡ card 128 (members q.others ∩ agreed q u))

-- the table has the room of each chosen mark
abbrev pub Roomy : Asked → List Room → Type 0
Roomy q rooms = (u : ℕ) → members q.chosen u ≡ true → IsRoom q u (slice_get rooms u)

-- the rooms of the chosen marks, if these are a k-plex
abbrev pub FindsRooms : Asked → Option (List Room) → Type 0
FindsRooms q None = Kplex 128 q.k (agreed q) (members q.chosen) → ⊥
FindsRooms q (Some rooms) = Kplex 128 q.k (agreed q) (members q.chosen) × Roomy q rooms
