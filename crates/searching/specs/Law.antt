-- The law over runs: whatever is called, in whatever order. Assumes nothing. Kplex n k agrees p says that the set p is a k-plex of the
-- sheet with n marks and this agreement, card n p is how many marks it has, and Reached does s paid t says that some list of calls leads
-- from s to t and pays for so many steps.
use Rattle.std.specs.Prelude.{◌≡◌, ℕ, ◌+◌, ◌-◌, ◌^◌, ◌<◌, ◌≤◌, Bool, true, List, take, Ok}
use Rattle.plex.specs.Sets.{Set, Agreement, card, Kplex, rising}
use Rattle.plex.specs.Meaning.{Meaning}
use Rattle.ceiling.specs.Rules.{Number, Lawful}
use Rattle.searching.specs.States.{State, ceiling, steps_left, settled}
use Rattle.searching.specs.Steps.{Stepped}
use Rattle.searching.specs.Calls.{Call, Report, Tally, CopyOut, Answer, says_settled, Does}
use Rattle.searching.specs.Making.{Made}
use Rattle.searching.specs.Sound.{Formed, Sound}
use Rattle.searching.specs.Runs.{Reached}

-- What is kept at a point t of a run that has paid for so many steps. The sheet has n marks and an agreement; does says what the calls
-- do; held, ceiling_of and is_settled say of each state which group is held, its ceiling, and whether it is settled.
pub record Keeps {St : Type 0} (does : St → (c : Call) → Answer c → St → Type 0) (held : St → Set) (ceiling_of : St → ℕ) (is_settled : St → Bool)
    (n k : ℕ) (agrees : Agreement) (enough : ℕ) (paid : ℕ) (t : St) : Type 0 where
  -- the group held is a k-plex of the sheet
  pub plex : Kplex n k agrees (held t)
  -- no k-plex of the sheet has more marks than the ceiling
  pub under : (p : Set) → Kplex n k agrees p → card n p ≤ ceiling_of t
  -- at every later point the group held is as large at least, and the ceiling no higher
  pub later : (more : ℕ) (u : St) → Reached does t more u → (card n (held t) ≤ card n (held u)) × (ceiling_of u ≤ ceiling_of t)
  -- settled, the ceiling is the held size
  pub meets : is_settled t ≡ true → ceiling_of t ≡ card n (held t)
  -- and no k-plex of the sheet is larger
  pub largest : is_settled t ≡ true → (p : Set) → Kplex n k agrees p → card n p ≤ card n (held t)
  -- it is settled once enough steps are paid for
  pub ends : enough ≤ paid → is_settled t ≡ true
  -- held size and ceiling are what a report answers
  pub reports : (a : Answer Report) (u : St) → does t Report a u → (a.0 ≡ card n (held t)) × (a.1 ≡ ceiling_of t)
  -- settled is what a tally says
  pub tallies : (a : Answer Tally) (u : St) → does t Tally a u → says_settled a ≡ is_settled t
  -- a copy-out that is accepted answers the held size and has written the group held, and the search is settled
  pub copies : (places places' : List ℕ) (count : ℕ) (u : St) → does t (CopyOut places) (Ok count, places') u →
      (is_settled t ≡ true) × (count ≡ card n (held t)) × (take count places' ≡ rising n (held t))

-- it is kept at the start and after every list of calls
abbrev pub Law : {St : Type 0} (does : St → (c : Call) → Answer c → St → Type 0) (held : St → Set) (ceiling_of : St → ℕ) (is_settled : St → Bool) →
    ℕ → ℕ → Agreement → ℕ → St → Type 0
Law {St} does held ceiling_of is_settled n k agrees enough start =
    (paid : ℕ) (t : St) → Reached does start paid t → Keeps does held ceiling_of is_settled n k agrees enough paid t

-- for every sheet, every k from 1 to 16 and every lawful rule, from the making on
abbrev pub TheLaw : Type 0
TheLaw = (m : Meaning) (k : ℕ) (rule : Number) → 1 ≤ k → k ≤ 16 → Lawful rule → (s : State) → Made m k rule s →
    Law Does (λ t. t.held) ceiling settled m.marks k m.agrees (2 ^ (m.marks + 1) - 1) s

-- from any sound state on, with as many steps as are left there
abbrev pub TheLawFromSound : Type 0
TheLawFromSound = (s : State) → Sound s → Lawful s.rule →
    Law Does (λ t. t.held) ceiling settled s.marks s.k s.sheet (steps_left s) s

-- all of it, and why it ends
pub record LawOverRuns : Type 0 where
  pub made : TheLaw
  pub sound : TheLawFromSound
  -- a step taken lowers the number of steps left, which is exact and has no cap
  pub falls : (s t : State) → Formed s → Stepped s t → steps_left t < steps_left s
  -- at the making at most 2^(n + 1) - 1 are left
  pub starts : (m : Meaning) (k : ℕ) (rule : Number) (s : State) → Made m k rule s → steps_left s ≤ 2 ^ (m.marks + 1) - 1
