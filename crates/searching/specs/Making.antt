-- The search that a making leaves. Assumes nothing.
use Rattle.std.specs.Prelude.{◌≡◌, ℕ, ◌<◌, ◌≤◌, [], ◌∷◌}
use Rattle.plex.specs.Sets.{none, below}
use Rattle.plex.specs.Meaning.{Meaning}
use Rattle.pruning.specs.Pruned.{Largest, ends_needed, shared_needed, left_marks}
use Rattle.ceiling.specs.Rules.{Number}
use Rattle.searching.specs.First.{Peels}
use Rattle.searching.specs.States.{State, branch, held_size}

-- a larger k-plex is not ruled out: the table is co-pruned with the held size as floor, and one branch is open, for all marks left
pub record Opens (s : State) : Type 0 where
  pub table : Largest s.marks (ends_needed s.k (held_size s)) (shared_needed s.k (held_size s)) s.sheet s.table
  pub branches : s.branches ≡ branch none (left_marks s.marks (ends_needed s.k (held_size s)) s.table) ∷ []

-- it is ruled out: the table is a plain copy, and no branch is open
pub record Done (s : State) : Type 0 where
  pub table : s.table ≡ s.sheet
  pub branches : s.branches ≡ []

-- s is the search on the sheet m with k and the rule, just made
pub record Made (m : Meaning) (k : ℕ) (rule : Number) (s : State) : Type 0 where
  pub marks : s.marks ≡ m.marks
  pub k_is : s.k ≡ k
  pub sheet : s.sheet ≡ m.agrees
  pub rule_is : s.rule ≡ rule
  -- the first group and the top, from all marks on
  pub first : Peels s.marks s.k s.sheet (below s.marks) s.held s.top
  pub opens : held_size s < s.top → Opens s
  pub done : s.top ≤ held_size s → Done s
  pub taken : s.taken ≡ 0
