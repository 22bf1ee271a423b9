-- The calls of a search, their answers, and what each leaves, refusals included. Assumes nothing.
use Rattle.std.specs.Prelude.{◌≡◌, ℕ, ◌+◌, ◌<◌, ◌≤◌, Bool, true, false, ◌⊎◌, List, ◌++◌, length, drop, Ok, Err, Result, slice_index}
use Rattle.plex.specs.Sets.{card, Kplex, rising, among}
use Rattle.searching.specs.declared.refusal.SearchRefusal.{SearchRefusal}
use Rattle.searching.specs.declared.refusal.SearchRefusal.TheVariants.{
  BudgetOutOfRange,
  ListTooLong,
  NotRisingMarks,
  NotPlex,
  NotLarger,
  NotSettled,
  TooFewPlaces,
}
use Rattle.searching.specs.declared.tally.Tally as told
use Rattle.searching.specs.States.{State, moved, held_size, ceiling, steps_left, settled, capped}
use Rattle.searching.specs.Steps.{Stepped, Steps}

pub data Call : Type 0 where
  Step : Call
  -- with its budget
  Run : ℕ → Call
  -- with the list offered
  Offer : List ℕ → Call
  Report : Call
  Tally : Call
  -- with the places as they were before
  CopyOut : List ℕ → Call

-- what each call answers; a copy-out's answer has the places after it
abbrev pub Answer : Call → Type 0
Answer Step = ℕ
Answer (Run budget) = Result ℕ SearchRefusal
Answer (Offer list) = Result ℕ SearchRefusal
Answer Report = ℕ × ℕ
Answer Tally = told.Tally
Answer (CopyOut places) = Result ℕ SearchRefusal × List ℕ

-- whether a tally says that the search is settled
abbrev pub says_settled : Answer Tally → Bool
says_settled a = a.settled

-- the number of each refusal
abbrev pub number : SearchRefusal → ℕ
number BudgetOutOfRange = 51
number ListTooLong = 52
number NotRisingMarks = 53
number NotPlex = 54
number NotLarger = 55
number NotSettled = 56
number TooFewPlaces = 57

-- a strictly rising list of marks below n
pub record RisingMarks (n : ℕ) (list : List ℕ) : Type 0 where
  pub marks : (p : ℕ) → p < length list → slice_index list p < n
  pub rises : (p : ℕ) → p + 1 < length list → slice_index list p < slice_index list (p + 1)

-- the marks of a list are a k-plex of the sheet
abbrev pub OffersPlex : State → List ℕ → Type 0
OffersPlex s list = Kplex s.marks s.k s.sheet (among list)

-- the largest budget of a run
abbrev pub run_limit : ℕ
run_limit = 65536

-- a budget of at least one step and at most so many
abbrev pub Allowed : ℕ → ℕ → Type 0
Allowed limit budget = (1 ≤ budget) × (budget ≤ limit)

-- under exactly which condition a run is refused, and why
abbrev pub RefusesRun : ℕ → SearchRefusal → Type 0
RefusesRun budget BudgetOutOfRange = Allowed run_limit budget → ⊥
RefusesRun budget ListTooLong = ⊥
RefusesRun budget NotRisingMarks = ⊥
RefusesRun budget NotPlex = ⊥
RefusesRun budget NotLarger = ⊥
RefusesRun budget NotSettled = ⊥
RefusesRun budget TooFewPlaces = ⊥

-- likewise an offer; each condition has that those before it do not hold
abbrev pub RefusesOffer : State → List ℕ → SearchRefusal → Type 0
RefusesOffer s list BudgetOutOfRange = ⊥
RefusesOffer s list ListTooLong = s.marks < length list
RefusesOffer s list NotRisingMarks = (length list ≤ s.marks) × (RisingMarks s.marks list → ⊥)
RefusesOffer s list NotPlex = (length list ≤ s.marks) × RisingMarks s.marks list × (OffersPlex s list → ⊥)
RefusesOffer s list NotLarger =
    (length list ≤ s.marks) × RisingMarks s.marks list × OffersPlex s list × (card s.marks (among list) ≤ held_size s)
RefusesOffer s list NotSettled = ⊥
RefusesOffer s list TooFewPlaces = ⊥

-- likewise a copy-out
abbrev pub RefusesCopy : State → List ℕ → SearchRefusal → Type 0
RefusesCopy s places BudgetOutOfRange = ⊥
RefusesCopy s places ListTooLong = ⊥
RefusesCopy s places NotRisingMarks = ⊥
RefusesCopy s places NotPlex = ⊥
RefusesCopy s places NotLarger = ⊥
RefusesCopy s places NotSettled = settled s ≡ false
RefusesCopy s places TooFewPlaces = (settled s ≡ true) × (length places < held_size s)

-- up to a budget of steps: so many were taken, and fewer than the budget only if the search is settled then
pub record Ran (budget : ℕ) (s : State) (count : ℕ) (s' : State) : Type 0 where
  pub taken : Steps count s s'
  pub within : count ≤ budget
  pub until : count < budget → settled s' ≡ true

-- an offered list whose marks are held from now on
pub record Takes (s : State) (list : List ℕ) : Type 0 where
  pub short : length list ≤ s.marks
  pub rising_marks : RisingMarks s.marks list
  pub plex : OffersPlex s list
  pub larger : held_size s < card s.marks (among list)

-- the group held was written rising into the first places, and nothing else
pub record Copies (s : State) (places : List ℕ) (count : ℕ) (places' : List ℕ) : Type 0 where
  pub done : settled s ≡ true
  pub room : held_size s ≤ length places
  pub count_is : count ≡ held_size s
  pub written : places' ≡ rising s.marks s.held ++ drop (held_size s) places

abbrev pub CopiedOut : State → List ℕ → Result ℕ SearchRefusal → List ℕ → Type 0
CopiedOut s places (Ok count) places' = Copies s places count places'
CopiedOut s places (Err e) places' = RefusesCopy s places e × (places' ≡ places)

-- What each call answers in the state s, and which state it leaves. A refused call leaves all as it was.
abbrev pub Does : State → (c : Call) → Answer c → State → Type 0
Does s Step count s' = ((count ≡ 1) × Stepped s s') ⊎ ((count ≡ 0) × (settled s ≡ true) × (s' ≡ s))
Does s (Run budget) (Ok count) s' = Allowed run_limit budget × Ran budget s count s'
Does s (Run budget) (Err e) s' = RefusesRun budget e × (s' ≡ s)
Does s (Offer list) (Ok v) s' = Takes s list × (v ≡ 0) × (s' ≡ moved s (among list) s.branches s.taken)
Does s (Offer list) (Err e) s' = RefusesOffer s list e × (s' ≡ s)
Does s Report a s' = (a.0 ≡ held_size s) × (a.1 ≡ ceiling s) × (s' ≡ s)
Does s Tally a s' = (a.taken ≡ capped s.taken) × (a.left ≡ capped (steps_left s)) × (says_settled a ≡ settled s) × (s' ≡ s)
Does s (CopyOut places) a s' = CopiedOut s places a.0 a.1 × (s' ≡ s)
