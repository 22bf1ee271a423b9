-- Worked examples: facts about the definitions of this crate, as they stand. Assumes nothing.
use Rattle.std.specs.Prelude.{◌≡◌, ℕ, ◌+◌, ◌^◌, Bool, true, false, ◌||◌, List, [], ◌∷◌, length, pos, Ok, Err, Result, refl}
use Rattle.std.proofs.lemmas.Bool.{leb-true}
use Rattle.plex.specs.Sets.{Agreement, is_pair, rising}
use Rattle.plex.specs.Meaning.{Meaning, meaning_by}
use Rattle.plex.specs.Distance.{Sighting, sighted_alike}
use Rattle.pruning.specs.Pruned.{Largest, ends_needed, shared_needed, agreements}
use Rattle.ceiling.specs.Rules.{Number, smaller}
use Rattle.ceiling.specs.Formulas.{by_degree, by_pair}
use Rattle.searching.specs.declared.refusal.SearchRefusal.{SearchRefusal}
use Rattle.searching.specs.States.{State, held_size, ceiling, steps_left, settled, cap}
use Rattle.searching.specs.Calls.{Step, Run, Offer, number, run_limit, Does}
use Rattle.searching.specs.Making.{Made}

-- five marks in a ring
abbrev pub pentagon : Meaning
pentagon =
    meaning_by 5 (leb-true 5 128 refl) (λ i j. is_pair 0 1 i j || is_pair 0 4 i j || is_pair 1 2 i j || is_pair 2 3 i j || is_pair 3 4 i j)

-- Eight marks. With k 2 the search would take another number of steps, or hold another group, if trimming stopped after one round, if
-- the mark to split by were another, if the branch without it were the newest, or if a step used the sheet in place of the table. That
-- was computed apart and is not proved.
abbrev pub eight : Meaning
eight =
    meaning_by 8 (leb-true 8 128 refl)
    (λ i j. is_pair 0 1 i j || is_pair 0 3 i j || is_pair 0 4 i j || is_pair 0 7 i j || is_pair 1 2 i j || is_pair 1 6 i j || is_pair 1 7 i j
    || is_pair 2 3 i j || is_pair 2 4 i j || is_pair 2 5 i j || is_pair 2 7 i j || is_pair 3 5 i j || is_pair 3 6 i j || is_pair 4 5 i j
    || is_pair 4 7 i j || is_pair 5 6 i j || is_pair 6 7 i j)

-- Eight marks again. With k 3 it would take more steps without either of the two rules, which was computed apart too.
abbrev pub eight_sparse : Meaning
eight_sparse =
    meaning_by 8 (leb-true 8 128 refl)
    (λ i j. is_pair 0 2 i j || is_pair 0 3 i j || is_pair 1 2 i j || is_pair 1 7 i j || is_pair 2 7 i j || is_pair 3 4 i j || is_pair 3 6 i j
    || is_pair 4 6 i j || is_pair 5 7 i j)

-- three marks, and no two of them agree
abbrev pub three_apart : Meaning
three_apart = meaning_by 3 (leb-true 3 128 refl) (λ i j. false)

abbrev pub no_marks : Meaning
no_marks = meaning_by 0 (leb-true 0 128 refl) (λ i j. false)

-- the smaller of the degree rule and the pair rule
abbrev pub both_rules : Number
both_rules = smaller (by_degree 128) (by_pair 128)

-- the group held, the ceiling, and whether the search is settled
pub record Looks (s : State) (group : List ℕ) (high : ℕ) (done : Bool) : Type 0 where
  pub holds : rising s.marks s.held ≡ group
  pub high_is : ceiling s ≡ high
  pub done_is : settled s ≡ done

-- a run to the end takes so many steps, and holds this group in the end
abbrev pub Ends : State → ℕ → List ℕ → Type 0
Ends s x group = (a : Result ℕ SearchRefusal) (t : State) → Does s (Run run_limit) a t → (a ≡ Ok x) × Looks t group (length group) true

-- the answer is the refusal with this number
abbrev pub Gets : Result ℕ SearchRefusal → ℕ → Type 0
Gets (Ok v) x = ⊥
Gets (Err e) x = number e ≡ x

-- what is left of the pentagon, co-pruned, has so many agreements
abbrev pub Leaves : ℕ → ℕ → ℕ → Type 0
Leaves k f x = (g : Agreement) → Largest 5 (ends_needed k f) (shared_needed k f) pentagon.agrees g → agreements 5 g ≡ x

pub record PentagonTwo (s : State) : Type 0 where
  pub made : Looks s (2 ∷ 3 ∷ 4 ∷ []) 4 false
  pub left : steps_left s ≡ 63
  pub one_step : (a : ℕ) (t : State) → Does s Step a t → (a ≡ 1) × (steps_left t ≡ 62)
  pub four : (a : Result ℕ SearchRefusal) (t : State) → Does s (Run 4) a t → (a ≡ Ok 4) × (settled t ≡ false)
  pub five : (a : Result ℕ SearchRefusal) (t : State) → Does s (Run 5) a t → (a ≡ Ok 5) × Looks t (2 ∷ 3 ∷ 4 ∷ []) 3 true
  pub not_larger : (a : Result ℕ SearchRefusal) (t : State) → Does s (Offer (0 ∷ 1 ∷ 2 ∷ [])) a t → Gets a 55
  pub not_plex : (a : Result ℕ SearchRefusal) (t : State) → Does s (Offer (0 ∷ 2 ∷ 3 ∷ [])) a t → Gets a 54

pub record PentagonOne (s : State) : Type 0 where
  pub made : Looks s (3 ∷ 4 ∷ []) 2 false
  pub one_step : (a : ℕ) (t : State) → Does s Step a t → (a ≡ 1) × Looks t (3 ∷ 4 ∷ []) 2 true

-- a mark's planned point and its seen point
abbrev pub sighted : ℕ → ℕ → ℕ → ℕ → ℕ → ℕ → Sighting
sighted x y z x' y' z' = record {
  planned = record { x = pos x; y = pos y; z = pos z };
  seen = record { x = pos x'; y = pos y'; z = pos z' };
}

pub record WorkedExamples : Type 0 where
  pub pentagon_two : (s : State) → Made pentagon 2 both_rules s → PentagonTwo s
  pub pentagon_one : (s : State) → Made pentagon 1 both_rules s → PentagonOne s
  pub eight_two : (s : State) → Made eight 2 both_rules s → Ends s 9 (0 ∷ 1 ∷ 2 ∷ 4 ∷ 7 ∷ [])
  pub eight_three : (s : State) → Made eight_sparse 3 both_rules s → Ends s 11 (0 ∷ 1 ∷ 2 ∷ 3 ∷ [])
  -- co-pruned with k 2, floor 3 keeps all five agreements and floor 4 none; with k 1, floor 2 none
  pub floor_three : Leaves 2 3 5
  pub floor_four : Leaves 2 4 0
  pub floor_two : Leaves 1 2 0
  pub apart_two : (s : State) → Made three_apart 2 both_rules s → Looks s (1 ∷ 2 ∷ []) 2 true
  pub apart_three : (s : State) → Made three_apart 3 both_rules s → Looks s (0 ∷ 1 ∷ 2 ∷ []) 3 true
  -- whatever k and the rule are
  pub no_mark : (k : ℕ) (rule : Number) (s : State) → Made no_marks k rule s → (held_size s ≡ 0) × Looks s [] 0 true
  -- the counts of a tally stop at the largest 32-bit number
  pub largest_count : cap + 1 ≡ 2 ^ 32
  -- and a run's budget at 65,536
  pub largest_budget : run_limit ≡ 2 ^ 16
  -- the squares of the distances are 25 and 36
  pub tolerance : (sighted_alike 11 (sighted 0 0 0 0 0 0) (sighted 3 4 0 0 0 6) ≡ true) × (sighted_alike 10 (sighted 0 0 0 0 0 0) (sighted 3 4 0 0 0 6) ≡ false)
