-- What a pass over the chosen marks finds. Assumes nothing.
use Rattle.std.specs.Prelude.{◌≡◌, ℕ, ◌≤◌, true, ◌⊎◌, Some, None, Option}
use Rattle.plex.specs.Sets.{Set, Agreement, Kplex}
use Rattle.ceiling.specs.Formulas.{degree_number}

-- the number with which a search for the smallest begins
abbrev pub nothing_yet : ℕ
nothing_yet = 4294967295

-- m is the smallest of start and of the numbers f u over the marks u of s
pub record Lowered (s : Set) (f : ℕ → ℕ) (start m : ℕ) : Type 0 where
  pub from : m ≤ start
  pub below : (u : ℕ) → s u ≡ true → m ≤ f u
  pub reached : (m ≡ start) ⊎ ((u : ℕ) × (s u ≡ true) × (m ≡ f u))

-- the smallest number of the degree rule over the marks of s, if s is a k-plex
abbrev pub Degrees : ℕ → Agreement → Set → Set → Option ℕ → Type 0
Degrees k agrees s c None = Kplex 128 k agrees s → ⊥
Degrees k agrees s c (Some m) = Kplex 128 k agrees s × Lowered s (degree_number 128 k agrees s c) nothing_yet m
