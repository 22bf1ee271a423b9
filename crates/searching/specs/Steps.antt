-- What a step does. Agreement means the co-pruned table throughout. Assumes nothing.
use Rattle.std.specs.Prelude.{◌≡◌, ℕ, ◌+◌, ◌≤◌, true, false, ◌&&◌, ◌⊎◌, List, ◌∷◌, ◌==◌}
use Rattle.plex.specs.Sets.{Set, Agreement, card, only, ◌∪◌, ◌∖◌, Kplex}
use Rattle.ceiling.specs.Rules.{reply}
use Rattle.ceiling.specs.Formulas.{misses}
use Rattle.searching.specs.First.{agreements_inside}
use Rattle.searching.specs.Trimming.{Trimmed}
use Rattle.searching.specs.States.{Branch, branch, State, moved, held_size, capped}

-- u is the mark of p with most agreements inside s and c, the lowest of those
pub record Most (n : ℕ) (agrees : Agreement) (s c p : Set) (u : ℕ) : Type 0 where
  pub member : p u ≡ true
  pub most : (v : ℕ) → p v ≡ true → agreements_inside n agrees (s ∪ c) v ≤ agreements_inside n agrees (s ∪ c) u
  pub lowest : (v : ℕ) → p v ≡ true → agreements_inside n agrees (s ∪ c) v ≡ agreements_inside n agrees (s ∪ c) u → u ≤ v

-- the candidates that may miss no further mark: exactly k - 1 marks of s do not agree with them
abbrev pub tight : ℕ → ℕ → Agreement → Set → Set → Set
tight n k agrees s c v = c v && misses n agrees s v + 1 == k

-- u is the candidate by which a branch is split: a tight one if there is any
pub record SplitMark (n k : ℕ) (agrees : Agreement) (s c : Set) (u : ℕ) : Type 0 where
  pub among_tight : (v : ℕ) → tight n k agrees s c v ≡ true → Most n agrees s c (tight n k agrees s c) u
  pub among_all : ((v : ℕ) → tight n k agrees s c v ≡ false) → Most n agrees s c c u

-- what a step works on: the newest branch, with its candidates trimmed to c, and the older ones
pub record Newest (s : State) (b : Branch) (older : List Branch) (c : Set) : Type 0 where
  pub newest : s.branches ≡ b ∷ older
  pub trimmed : Trimmed s.marks s.k s.table (held_size s) b.chosen b.candidates c

-- no k-plex of a branch can be larger than the group held, by its marks or by the rule
abbrev pub Hopeless : State → Set → Set → Type 0
Hopeless s chosen c =
    (card s.marks chosen + card s.marks c ≤ held_size s) ⊎ (reply s.rule s.k s.table chosen c ≤ held_size s)

abbrev pub WholePlex : State → Set → Set → Type 0
WholePlex s chosen c = Kplex s.marks s.k s.table (chosen ∪ c)

-- one step, from a search to a search; of these three cases one applies
pub data Stepped (s : State) : State → Type 0 where
  -- the branch closes
  closes : (b : Branch) (older : List Branch) (c : Set) → Newest s b older c → Hopeless s b.chosen c →
      Stepped s (moved s s.held older (capped (s.taken + 1)))
  -- all its marks together are a larger k-plex, which is held from now on, and the branch closes
  takes : (b : Branch) (older : List Branch) (c : Set) → Newest s b older c → (Hopeless s b.chosen c → ⊥) → WholePlex s b.chosen c →
      Stepped s (moved s (b.chosen ∪ c) older (capped (s.taken + 1)))
  -- it is replaced by the branch without u and, as the newest, the branch with u
  splits : (b : Branch) (older : List Branch) (c : Set) (u : ℕ) → Newest s b older c → (Hopeless s b.chosen c → ⊥) →
      (WholePlex s b.chosen c → ⊥) → SplitMark s.marks s.k s.table b.chosen c u →
      Stepped s (moved s s.held (branch (b.chosen ∪ only u) (c ∖ only u) ∷ branch b.chosen (c ∖ only u) ∷ older) (capped (s.taken + 1)))

-- so many steps, one after another
pub data Steps : ℕ → State → State → Type 0 where
  still : {s : State} → Steps 0 s s
  onward : {count : ℕ} {s s' s'' : State} → Steps count s s' → Stepped s' s'' → Steps (count + 1) s s''
