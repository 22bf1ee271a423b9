-- The same by computing, for worked examples: each is proved to be what the definitions say. Assumes nothing.
use Rattle.std.specs.Prelude.{ℕ, zero, suc, ◌+◌, ◌-◌, ◌*◌, max, Bool, true, false, not, ◌&&◌, ◌||◌, List, [], ◌∷◌, ◌++◌, length, drop, Some, None, Ok, Err, Option, Result, nat_le, nat_lt}
use Rattle.plex.specs.Sets.{Set, Agreement, one_if, card, none, only, below, ◌∪◌, ◌∖◌, is_kplex, rising, among}
use Rattle.plex.specs.Least.{least}
use Rattle.pruning.specs.Pruned.{ends_needed, shared_needed, left_marks}
use Rattle.pruning.specs.Rounds.{rounds}
use Rattle.ceiling.specs.Rules.{Number, reply}
use Rattle.searching.specs.declared.refusal.SearchRefusal.{SearchRefusal}
use Rattle.searching.specs.declared.refusal.SearchRefusal.TheVariants.{
  BudgetOutOfRange,
  ListTooLong,
  NotRisingMarks,
  NotPlex,
  NotLarger,
  NotSettled,
  TooFewPlaces,
}
use Rattle.searching.specs.First.{agreements_inside, most_with}
use Rattle.searching.specs.States.{Branch, branch, State, moved, held_size, ceiling, steps_left, settled, capped}
use Rattle.searching.specs.Steps.{tight}
use Rattle.searching.specs.Calls.{Call, Step, Run, Offer, Report, Tally, CopyOut, Answer, run_limit}

-- a group that is held first, and the top
pub record Found : Type 0 where
  pub group : Set
  pub top : ℕ

abbrev pub peel_test : (Set → Found) → ℕ → ℕ → Agreement → Set → ℕ → Bool → Found
peel_test rest n k agrees r u true = record { group = r; top = most_with n k agrees r u }
peel_test rest n k agrees r u false =
    let f = rest (r ∖ only u) in record { group = f.group; top = max (most_with n k agrees r u) f.top }

abbrev pub peel_at : (Set → Found) → ℕ → ℕ → Agreement → Set → Option ℕ → Found
peel_at rest n k agrees r None = record { group = r; top = 0 }
peel_at rest n k agrees r (Some u) = peel_test rest n k agrees r u (nat_le (card n r) (agreements_inside n agrees r u + k))

-- the first group by at most m rounds from the marks r on
unfoldable pub peel : ℕ → ℕ → ℕ → Agreement → Set → Found
peel zero n k agrees r = record { group = r; top = 0 }
peel (suc m) n k agrees r = peel_at (peel m n k agrees) n k agrees r (least n r (agreements_inside n agrees r))

abbrev pub trim_round : ℕ → ℕ → Agreement → ℕ → Set → Set → Set
trim_round n k agrees h s c v = c v && (is_kplex n k agrees (s ∪ only v) && nat_lt h (k + agreements_inside n agrees (s ∪ c) v))

-- trimming by m rounds, each of which drops all that do not fit
unfoldable pub trim : ℕ → ℕ → ℕ → Agreement → ℕ → Set → Set → Set
trim zero n k agrees h s c = c
trim (suc m) n k agrees h s c = trim m n k agrees h s (trim_round n k agrees h s c)

-- most agreements inside s and c: fewest when taken from n
abbrev pub pick_from : ℕ → Agreement → Set → Set → Set → Option ℕ
pick_from n agrees s c p = least n p (λ v. n - agreements_inside n agrees (s ∪ c) v)

abbrev pub first_of : Option ℕ → Option ℕ → Option ℕ
first_of None o = o
first_of (Some u) o = Some u

-- the mark by which a branch is split
abbrev pub pick : ℕ → ℕ → Agreement → Set → Set → Option ℕ
pick n k agrees s c = first_of (pick_from n agrees s c (tight n k agrees s c)) (pick_from n agrees s c c)

abbrev pub split_at : State → Branch → Set → List Branch → Option ℕ → State
split_at s b c older None = s
split_at s b c older (Some u) =
    moved s s.held (branch (b.chosen ∪ only u) (c ∖ only u) ∷ branch b.chosen (c ∖ only u) ∷ older) (capped (s.taken + 1))

abbrev pub decide_step : State → Branch → Set → List Branch → Bool → Bool → State
decide_step s b c older true whole = moved s s.held older (capped (s.taken + 1))
decide_step s b c older false true = moved s (b.chosen ∪ c) older (capped (s.taken + 1))
decide_step s b c older false false = split_at s b c older (pick s.marks s.k s.table b.chosen c)

abbrev pub is_hopeless : State → Set → Set → Bool
is_hopeless s chosen c =
    nat_le (card s.marks chosen + card s.marks c) (held_size s) || nat_le (reply s.rule s.k s.table chosen c) (held_size s)

abbrev pub step_trimmed : State → Branch → List Branch → Set → State
step_trimmed s b older c =
    decide_step s b c older (is_hopeless s b.chosen c) (is_kplex s.marks s.k s.table (b.chosen ∪ c))

abbrev pub step_at : State → List Branch → State
step_at s [] = s
step_at s (b ∷ older) =
    step_trimmed s b older (trim s.marks s.marks s.k s.table (held_size s) b.chosen b.candidates)

-- the search after a step
unfoldable pub next : State → State
next s = step_at s s.branches

-- how many steps a run took, and where it ended
pub record RunEnd : Type 0 where
  pub count : ℕ
  pub after : State

abbrev pub run_on : (State → RunEnd) → State → Bool → RunEnd
run_on rest s true = record { count = 0; after = s }
run_on rest s false = record { count = 1 + (rest (next s)).count; after = (rest (next s)).after }

unfoldable pub run : ℕ → State → RunEnd
run zero s = record { count = 0; after = s }
run (suc budget) s = run_on (run budget) s (settled s)

-- whether a list has marks below n alone, each above the one before it, the first at least low
abbrev pub is_rising : ℕ → ℕ → List ℕ → Bool
is_rising n low [] = true
is_rising n low (x ∷ xs) = (nat_le low x && nat_lt x n) && is_rising n (suc x) xs

-- an offer's answer by four tests: not too long, rising marks, a k-plex, larger
abbrev pub offered : Bool → Bool → Bool → Bool → Result ℕ SearchRefusal
offered false r p l = Err ListTooLong
offered true false p l = Err NotRisingMarks
offered true true false l = Err NotPlex
offered true true true false = Err NotLarger
offered true true true true = Ok 0

abbrev pub after_offer : State → List ℕ → Result ℕ SearchRefusal → State
after_offer s list (Ok v) = moved s (among list) s.branches s.taken
after_offer s list (Err e) = s

abbrev pub offer : State → List ℕ → Result ℕ SearchRefusal
offer s list =
    offered (nat_le (length list) s.marks) (is_rising s.marks 0 list) (is_kplex s.marks s.k s.sheet (among list))
    (nat_lt (held_size s) (card s.marks (among list)))

abbrev pub run_allowed : ℕ → Bool
run_allowed budget = nat_le 1 budget && nat_le budget run_limit

abbrev pub run_answer : Bool → ℕ → State → Result ℕ SearchRefusal
run_answer true budget s = Ok (run budget s).count
run_answer false budget s = Err BudgetOutOfRange

abbrev pub run_after : Bool → ℕ → State → State
run_after true budget s = (run budget s).after
run_after false budget s = s

-- a copy-out's answer by two tests: settled, and places enough
abbrev pub copy_answer : Bool → Bool → State → List ℕ → Result ℕ SearchRefusal × List ℕ
copy_answer false r s places = (Err NotSettled, places)
copy_answer true false s places = (Err TooFewPlaces, places)
copy_answer true true s places = (Ok (held_size s), rising s.marks s.held ++ drop (held_size s) places)

-- what a call answers
abbrev pub answer : State → (c : Call) → Answer c
answer s Step = one_if (not (settled s))
answer s (Run budget) = run_answer (run_allowed budget) budget s
answer s (Offer list) = offer s list
answer s Report = (held_size s, ceiling s)
answer s Tally = record { taken = capped s.taken; left = capped (steps_left s); settled = settled s }
answer s (CopyOut places) = copy_answer (settled s) (nat_le (held_size s) (length places)) s places

-- and the state that it leaves
abbrev pub leaves : State → Call → State
leaves s Step = next s
leaves s (Run budget) = run_after (run_allowed budget) budget s
leaves s (Offer list) = after_offer s list (offer s list)
leaves s Report = s
leaves s Tally = s
leaves s (CopyOut places) = s

abbrev pub pruned_at : ℕ → ℕ → Agreement → ℕ → Agreement
pruned_at n k agrees f = rounds (n * n) n (ends_needed k f) (shared_needed k f) agrees

abbrev pub table_at : Bool → ℕ → ℕ → Agreement → ℕ → Agreement
table_at true n k agrees f = pruned_at n k agrees f
table_at false n k agrees f = agrees

abbrev pub branches_at : Bool → ℕ → ℕ → Agreement → ℕ → List Branch
branches_at true n k agrees f = branch none (left_marks n (ends_needed k f) (pruned_at n k agrees f)) ∷ []
branches_at false n k agrees f = []

abbrev pub made_from : ℕ → ℕ → Agreement → Number → Found → State
made_from n k agrees rule f = record {
  marks = n;
  k = k;
  sheet = agrees;
  table = table_at (nat_lt (card n f.group) f.top) n k agrees (card n f.group);
  rule = rule;
  top = f.top;
  held = f.group;
  branches = branches_at (nat_lt (card n f.group) f.top) n k agrees (card n f.group);
  taken = 0;
}

-- the search that making leaves
abbrev pub make : ℕ → ℕ → Agreement → Number → State
make n k agrees rule = made_from n k agrees rule (peel n n k agrees (below n))
