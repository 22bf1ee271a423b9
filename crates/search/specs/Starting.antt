-- What a search starts with. Assumes nothing.
use Rattle.std.specs.Prelude.{◌≡◌, ℕ, ◌≤◌, List, [], ◌∷◌, Some, None, Option}
use Rattle.plex.specs.Meaning.{Meaning}
use Rattle.plex.specs.Words.{holds}
use Rattle.ceiling.specs.Rules.{Number}
use Rattle.tables.specs.Meanings.{bit_meaning}
use Rattle.held.specs.Groups.{held_set}
use Rattle.branch.specs.declared.branches.Branch.{Branch}
use Rattle.searching.specs.States.{State, held_size, branch}
use Rattle.searching.specs.States as states
use Rattle.searching.specs.Making.{Made}
use Rattle.search.specs.declared.searches.making.Start.{Start}

-- the branches that are open at the start
abbrev pub opening : Option Branch → List states.Branch
opening None = []
opening (Some b) = branch (holds b.chosen) (holds b.candidates) ∷ []

-- the search with this start
abbrev pub state_of : Number → ℕ → Start → State
state_of rule k s = record {
  marks = s.sheet.marks;
  k = k;
  sheet = (bit_meaning s.sheet).agrees;
  table = (bit_meaning s.table).agrees;
  rule = rule;
  top = s.top;
  held = held_set s.held;
  branches = opening s.first_branch;
  taken = 0;
}

pub record Starts (m : Meaning) (k : ℕ) (s : Start) : Type 0 where
  pub alike : s.table.marks ≡ s.sheet.marks
  pub made : (rule : Number) → Made m k rule (state_of rule k s)
  -- nothing is co-pruned if no branch is opened
  pub closed : (rule : Number) → s.top ≤ held_size (state_of rule k s) → s.first_branch ≡ None
