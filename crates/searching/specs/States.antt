-- What a search is at a moment, and what it says of itself. Assumes nothing.
use Rattle.std.specs.Prelude.{ℕ, zero, suc, ◌+◌, ◌*◌, min, max, Bool, true, false, List, [], ◌∷◌}
use Rattle.plex.specs.Sets.{Set, Agreement, card}
use Rattle.ceiling.specs.Rules.{Number}

-- an open branch stands for the k-plexes that have all marks of chosen, and no others but candidates
pub record Branch : Type 0 where
  pub chosen : Set
  pub candidates : Set

abbrev pub branch : Set → Set → Branch
branch s c = record { chosen = s; candidates = c }

pub record State : Type 0 where
  -- the marks of the sheet are the numbers below this one
  pub marks : ℕ
  pub k : ℕ
  -- the agreement of the sheet, as it stood at the making
  pub sheet : Agreement
  -- what co-pruning left of it
  pub table : Agreement
  -- the ceiling rule
  pub rule : Number
  -- no k-plex of the sheet has more marks
  pub top : ℕ
  -- the group held
  pub held : Set
  -- the open branches, the newest first
  pub branches : List Branch
  -- the steps taken, up to the cap
  pub taken : ℕ

-- the same search with another group held, other open branches and another count of steps
abbrev pub moved : State → Set → List Branch → ℕ → State
moved s held branches taken = record {
  marks = s.marks;
  k = s.k;
  sheet = s.sheet;
  table = s.table;
  rule = s.rule;
  top = s.top;
  held = held;
  branches = branches;
  taken = taken;
}

abbrev pub held_size : State → ℕ
held_size s = card s.marks s.held

-- how many marks a branch has
abbrev pub width : ℕ → Branch → ℕ
width n b = card n b.chosen + card n b.candidates

abbrev pub widest : ℕ → List Branch → ℕ
widest n [] = 0
widest n (b ∷ bs) = max (width n b) (widest n bs)

-- the smaller of the top and the largest of the held size and the widths of the open branches
abbrev pub ceiling : State → ℕ
ceiling s = min s.top (max (held_size s) (widest s.marks s.branches))

-- how many steps a branch with c candidates can take, with all branches that come of it
unfoldable pub steps_for : ℕ → ℕ
steps_for zero = 1
steps_for (suc c) = 1 + 2 * steps_for c

abbrev pub steps_over : ℕ → List Branch → ℕ
steps_over n [] = 0
steps_over n (b ∷ bs) = steps_for (card n b.candidates) + steps_over n bs

-- how many steps are left at most, exactly
abbrev pub steps_left : State → ℕ
steps_left s = steps_over s.marks s.branches

abbrev pub none_open : List Branch → Bool
none_open [] = true
none_open (b ∷ bs) = false

abbrev pub settled : State → Bool
settled s = none_open s.branches

-- both counts of the tally stop here
abbrev pub cap : ℕ
cap = 4294967295

abbrev pub capped : ℕ → ℕ
capped x = min x cap
