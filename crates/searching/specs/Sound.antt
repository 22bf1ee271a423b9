-- What holds of a search at every moment: made so, and kept by every call. Assumes nothing.
use Rattle.std.specs.Prelude.{◌≡◌, ℕ, ◌+◌, ◌<◌, ◌≤◌, true, false, ◌⊎◌, List, [], ◌∷◌}
use Rattle.plex.specs.Sets.{Set, Agreement, TwoWay, NoSelf, ◌⊑◌, card, Kplex, Within}
use Rattle.ceiling.specs.Rules.{Between}
use Rattle.searching.specs.States.{Branch, State, held_size}

-- p is one of the k-plexes that a branch of the list stands for
abbrev pub InSome : List Branch → Set → Type 0
InSome [] p = ⊥
InSome (b ∷ bs) p = Between b.chosen b.candidates p ⊎ InSome bs p

-- what holds of each open branch, h the held size
pub record SoundBranch (n k : ℕ) (table : Agreement) (h : ℕ) (b : Branch) : Type 0 where
  pub chosen : Within n b.chosen
  pub candidates : Within n b.candidates
  -- no mark is both
  pub apart : (i : ℕ) → b.candidates i ≡ true → b.chosen i ≡ false
  pub plex : Kplex n k table b.chosen ⊎ (card n b.chosen ≤ h)

abbrev pub SoundBranches : ℕ → ℕ → Agreement → ℕ → List Branch → Type 0
SoundBranches n k table h [] = Unit {0}
SoundBranches n k table h (b ∷ bs) = SoundBranch n k table h b × SoundBranches n k table h bs

-- each branch of the list has more candidates than the one before it, the first at least so many, and none has all n marks
abbrev pub Widening : ℕ → ℕ → List Branch → Type 0
Widening n low [] = Unit {0}
Widening n low (b ∷ bs) = (low ≤ card n b.candidates) × (card n b.candidates < n) × Widening n (card n b.candidates + 1) bs

-- behind the newest branch the next has as many candidates at least, and each one further back more
abbrev pub Stacked : ℕ → List Branch → Type 0
Stacked n [] = Unit {0}
Stacked n (b ∷ bs) = Widening n (card n b.candidates) bs

-- what the open branches owe, whatever the rule is: enough for every call to have one outcome
pub record Formed (s : State) : Type 0 where
  pub few : s.marks ≤ 128
  pub branches : SoundBranches s.marks s.k s.table (held_size s) s.branches
  pub stacked : Stacked s.marks s.branches

-- and that nothing is missed
pub record Sound (s : State) : Type 0 where
  pub formed : Formed s
  pub both_ways : TwoWay s.table
  pub no_self : NoSelf s.table
  pub part : s.table ⊑ s.sheet
  -- the group held is a k-plex of the sheet
  pub plex : Kplex s.marks s.k s.sheet s.held
  -- and none has more marks than the top
  pub under : (p : Set) → Kplex s.marks s.k s.sheet p → card s.marks p ≤ s.top
  -- each larger one is a k-plex of the table, and some open branch stands for it
  pub covers : (p : Set) → Kplex s.marks s.k s.sheet p → held_size s < card s.marks p →
      Kplex s.marks s.k s.table p × InSome s.branches p
