-- What a search means. Assumes nothing.
use Rattle.std.specs.Prelude.{ℕ, zero, suc, List, [], ◌∷◌}
use Rattle.ceiling.specs.Rules.{Number}
use Rattle.tables.specs.Meanings.{bit_meaning}
use Rattle.held.specs.Groups.{held_set}
use Rattle.branch.specs.declared.branches.Branch.{Branch}
use Rattle.searching.specs.States.{State, branch}
use Rattle.searching.specs.States as states
use Rattle.search.specs.Stacks.{chosen_at, candidates_at}
use Rattle.search.specs.declared.searches.Search.{Search}

-- the first so many branches of a table, the last of them first
abbrev pub opened : List Branch → ℕ → List states.Branch
opened bs zero = []
opened bs (suc m) = branch (chosen_at bs m) (candidates_at bs m) ∷ opened bs m

-- number gives the rule's number
abbrev pub view : {R : Type 0} → (R → Number) → Search R → State
view number s = record {
  marks = s.sheet.marks;
  k = s.k;
  sheet = (bit_meaning s.sheet).agrees;
  table = (bit_meaning s.table).agrees;
  rule = number s.rule;
  top = s.top;
  held = held_set s.held;
  branches = opened s.branches s.count;
  taken = s.taken;
}
