-- The laws of co-pruning. Assumes nothing.
use Rattle.std.specs.Prelude.{◌≡◌, ℕ, ◌*◌, ◌<◌}
use Rattle.plex.specs.Sets.{Set, Agreement, card, struck, Kplex, ◌⊆◌, ◌⊑◌, TwoWay, Among}
use Rattle.pruning.specs.Pruned.{Good, Largest, ends_needed, shared_needed, left_marks, Offends}
use Rattle.pruning.specs.Rounds.{rounds}

pub record CoPruning : Type 0 where
  -- the largest good set exists, for agreement among n marks that goes both ways
  pub exists : (n a b : ℕ) (r : Agreement) → Among n r → TwoWay r → (g : Agreement) × Largest n a b r g
  -- enough rounds, each of which strikes all that offends, compute it
  pub by_rounds : (n a b : ℕ) (r : Agreement) → Among n r → TwoWay r → Largest n a b r (rounds (n * n) n a b r)
  -- and there is only one
  pub unique : (n a b : ℕ) (r g h : Agreement) → Largest n a b r g → Largest n a b r h → g ≡ h
  -- striking an agreement that offends strikes none of a good set
  pub safe : (n a b : ℕ) (g h : Agreement) (u v : ℕ) → Good n a b h → h ⊑ g → Offends n a b g u v → h ⊑ struck u v g
  -- a k-plex of more than f marks is one in what remains, and all its marks are left
  pub keeps : (n k f : ℕ) (r g : Agreement) (s : Set) → TwoWay r → Largest n (ends_needed k f) (shared_needed k f) r g → Kplex n k r s → f < card n s →
      Kplex n k g s × (s ⊆ left_marks n (ends_needed k f) g)
  -- and a k-plex in what remains is one of the sheet
  pub adds_none : (n k : ℕ) (g r : Agreement) (s : Set) → g ⊑ r → Kplex n k g s → Kplex n k r s
