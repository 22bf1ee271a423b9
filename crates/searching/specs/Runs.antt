-- Lists of calls, each with its answer, and where they lead; for states of any type. Assumes nothing.
use Rattle.std.specs.Prelude.{ℕ, ◌+◌, Ok, Err}
use Rattle.searching.specs.Calls.{Call, Step, Run, Offer, Report, Tally, CopyOut, Answer}

-- how many steps an accepted call pays for: a step one, with or without effect, a run its whole budget, whatever it took
abbrev pub pays : (c : Call) → Answer c → ℕ
pays Step count = 1
pays (Run budget) (Ok count) = budget
pays (Run budget) (Err e) = 0
pays (Offer list) a = 0
pays Report a = 0
pays Tally a = 0
pays (CopyOut places) a = 0

-- a list of calls leads from one state to another, and pays for so many steps
pub data Reached {St : Type 0} (does : St → (c : Call) → Answer c → St → Type 0) : St → ℕ → St → Type 0 where
  at_once : {s : St} → Reached does s 0 s
  and_then : {s t u : St} {paid : ℕ} (c : Call) (a : Answer c) → Reached does s paid t → does t c a u → Reached does s (paid + pays c a) u
