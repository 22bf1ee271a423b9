-- That making and every call have just one outcome, and that it can be computed. Assumes nothing.
use Rattle.std.specs.Prelude.{◌≡◌, ℕ, Some}
use Rattle.plex.specs.Sets.{Set, Agreement, below, Within}
use Rattle.plex.specs.Meaning.{Meaning}
use Rattle.ceiling.specs.Rules.{Number, Lawful}
use Rattle.searching.specs.First.{Peels}
use Rattle.searching.specs.Trimming.{Trimmed}
use Rattle.searching.specs.States.{State}
use Rattle.searching.specs.Steps.{SplitMark, Stepped}
use Rattle.searching.specs.Sound.{Formed, Sound}
use Rattle.searching.specs.Calls.{Call, Answer, Does}
use Rattle.searching.specs.Making.{Made}
use Rattle.searching.specs.Computed.{peel, trim, pick, next, make, answer, leaves}

-- in the state s the call c has an answer and a state after, and no others
pub record Determined (s : State) (c : Call) : Type 0 where
  pub answer : Answer c
  pub after : State
  pub does : Does s c answer after
  pub only : (a : Answer c) (t : State) → Does s c a t → (a ≡ answer) × (t ≡ after)

-- every call in every well-formed state, and so in every sound one
pub record CallsAreExact : Type 0 where
  pub determined : (s : State) → Formed s → (c : Call) → Determined s c
  -- the state after is well-formed again; with a lawful rule it is sound if the state before was
  pub formed : (s t : State) (c : Call) (a : Answer c) → Formed s → Does s c a t → Formed t
  pub sound : (s t : State) (c : Call) (a : Answer c) → Sound s → Lawful s.rule → Does s c a t → Sound t

-- the search that making leaves exists, there is one, and it is sound
pub record MakingIsExact : Type 0 where
  pub exists : (m : Meaning) (k : ℕ) (rule : Number) → (s : State) × Made m k rule s
  pub only : (m : Meaning) (k : ℕ) (rule : Number) (s t : State) → Made m k rule s → Made m k rule t → s ≡ t
  pub sound : (m : Meaning) (k : ℕ) (rule : Number) (s : State) → Made m k rule s → Sound s

-- what is computed is what the definitions say, and they say nothing else
pub record ComputedIsTheSame : Type 0 where
  pub peeled : (n k : ℕ) (agrees : Agreement) → Peels n k agrees (below n) (peel n n k agrees (below n)).group (peel n n k agrees (below n)).top
  pub one_peeled : (n k : ℕ) (agrees : Agreement) (r held held' : Set) (top top' : ℕ) → Peels n k agrees r held top → Peels n k agrees r held' top' →
      (held ≡ held') × (top ≡ top')
  pub trimmed : (n k : ℕ) (agrees : Agreement) (h : ℕ) (s c : Set) → Within n s → Within n c → Trimmed n k agrees h s c (trim n n k agrees h s c)
  pub one_trimmed : (n k : ℕ) (agrees : Agreement) (h : ℕ) (s c d e : Set) → Trimmed n k agrees h s c d → Trimmed n k agrees h s c e → d ≡ e
  pub picked : (n k : ℕ) (agrees : Agreement) (s c : Set) (u : ℕ) → Within n c → pick n k agrees s c ≡ Some u → SplitMark n k agrees s c u
  pub one_picked : (n k : ℕ) (agrees : Agreement) (s c : Set) (u : ℕ) → Within n c → SplitMark n k agrees s c u → pick n k agrees s c ≡ Some u
  pub stepped : (s t : State) → Formed s → Stepped s t → t ≡ next s
  pub made : (m : Meaning) (k : ℕ) (rule : Number) → Made m k rule (make m.marks k m.agrees rule)
  pub does : (s : State) → Formed s → (c : Call) → Does s c (answer s c) (leaves s c)
