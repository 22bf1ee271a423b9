-- Every call has one answer and one state after.
use Rattle.std.proofs.Common.{◌≡◌, ℕ, Bool, true, false, not, leb, List, length, Ok, Err, Result, sym, refl, ap, ◌∙◌, subst, inl, inr}
use Rattle.std.proofs.lemmas.Bool.{cases_Bool, leb-true, leb-false, le-leb, lt-leb, and_parts, and_from, true≢false}
use Rattle.plex.specs.Sets.{one_if, among}
use Rattle.searching.specs.declared.refusal.SearchRefusal.{SearchRefusal}
use Rattle.searching.specs.declared.refusal.SearchRefusal.TheVariants.{
  BudgetOutOfRange,
  ListTooLong,
  NotRisingMarks,
  NotPlex,
  NotLarger,
  NotSettled,
  TooFewPlaces,
}
use Rattle.searching.specs.States.{State, held_size, settled}
use Rattle.searching.specs.Steps.{Stepped, Steps, still, onward}
use Rattle.searching.specs.Steps.Stepped.{closes, takes, splits}
use Rattle.searching.specs.Runs.{Reached, at_once, and_then}
use Rattle.searching.specs.Sound.{Formed}
use Rattle.searching.specs.Calls.{Call, Step, Run, Offer, Report, Tally, CopyOut, Answer, run_limit, CopiedOut, Does}
use Rattle.searching.specs.Exactness.{Determined, CallsAreExact}
use Rattle.searching.specs.Computed.{next, run_allowed, run_answer, run_after, copy_answer, answer, leaves}
use Rattle.searching.proofs.Forming.{formed_step, formed_offer}
use Rattle.searching.proofs.Runs.{settled_stops, turn}
use Rattle.searching.proofs.Stepping.{step_only, step_exists, settled_next}
use Rattle.searching.proofs.Running.{formed_steps, run_is, run_only}
use Rattle.searching.proofs.Offering.{offer_is, offer_only}

module _ (s : State) (o : Formed s) where
  step_does : (x : Bool) → settled s ≡ x → Does s Step (one_if (not x)) (next s)
  step_does true e = inr (refl, e, settled_next s e)
  step_does false e = inl (refl, step_exists s o e)

  step_one : (a : ℕ) (t : State) → Does s Step a t → (a ≡ one_if (not (settled s))) × (t ≡ next s)
  step_one a t (inl d) =
      let e : settled s ≡ false = elim (cases_Bool (settled s)) [ inl f ↦ absurd (settled_stops s t f d.1) | inr f ↦ f ] in
      (d.0 ∙ ap (λ x. one_if (not x)) (sym e), step_only s t o d.1)
  step_one a t (inr d) = (d.0 ∙ ap (λ x. one_if (not x)) (sym d.1), d.2 ∙ sym (settled_next s d.1))

  run_does : (budget : ℕ) (x : Bool) → run_allowed budget ≡ x → Does s (Run budget) (run_answer x budget s) (run_after x budget s)
  run_does budget true e =
      let u = and_parts (leb 1 budget) _ e in
      ((leb-true 1 budget u.0, leb-true budget run_limit u.1), run_is budget s o)
  run_does budget false e =
      ((λ w. true≢false (sym (and_from (leb 1 budget) _ (le-leb 1 budget w.0) (le-leb budget run_limit w.1)) ∙ e)), refl)

  run_one : (budget : ℕ) (a : Result ℕ SearchRefusal) (t : State) → Does s (Run budget) a t →
      (a ≡ run_answer (run_allowed budget) budget s) × (t ≡ run_after (run_allowed budget) budget s)
  run_one budget (Ok m) t d =
      let e : run_allowed budget ≡ true = and_from (leb 1 budget) _ (le-leb 1 budget d.0.0) (le-leb budget run_limit d.0.1) in
      let r = run_only budget s m t o d.1 in
      (ap Ok r.0 ∙ ap (λ x. run_answer x budget s) (sym e), r.1 ∙ ap (λ x. run_after x budget s) (sym e))
  run_one budget (Err BudgetOutOfRange) t d =
      let e : run_allowed budget ≡ false = elim (cases_Bool (run_allowed budget)) [
        | inl f ↦ absurd (d.0 (leb-true 1 budget (and_parts (leb 1 budget) _ f).0, leb-true budget run_limit (and_parts (leb 1 budget) _ f).1))
        | inr f ↦ f
      ] in
      (ap (λ x. run_answer x budget s) (sym e), d.1 ∙ ap (λ x. run_after x budget s) (sym e))
  run_one budget (Err ListTooLong) t d = absurd d.0
  run_one budget (Err NotRisingMarks) t d = absurd d.0
  run_one budget (Err NotPlex) t d = absurd d.0
  run_one budget (Err NotLarger) t d = absurd d.0
  run_one budget (Err NotSettled) t d = absurd d.0
  run_one budget (Err TooFewPlaces) t d = absurd d.0

  copy_does : (places : List ℕ) (x y : Bool) → settled s ≡ x → leb (held_size s) (length places) ≡ y →
      CopiedOut s places (copy_answer x y s places).0 (copy_answer x y s places).1
  copy_does places false y e f = (e, refl)
  copy_does places true false e f = ((e, leb-false (held_size s) (length places) f), refl)
  copy_does places true true e f = record { done = e; room = leb-true (held_size s) (length places) f; count_is = refl; written = refl }

  copy_told : (places : List ℕ) (x y : Bool) → settled s ≡ x → leb (held_size s) (length places) ≡ y →
      copy_answer x y s places ≡ copy_answer (settled s) (leb (held_size s) (length places)) s places
  copy_told places x y e f = λ i. copy_answer (sym e i) (sym f i) s places

  copy_one : (places : List ℕ) (r : Result ℕ SearchRefusal) (places' : List ℕ) → CopiedOut s places r places' →
      (r, places') ≡ copy_answer (settled s) (leb (held_size s) (length places)) s places
  copy_one places (Ok count) places' d =
      (λ i. (Ok (d.count_is i), d.written i)) ∙ copy_told places true true d.done (le-leb _ _ d.room)
  copy_one places (Err NotSettled) places' d = (λ i. (Err NotSettled, d.1 i)) ∙ copy_told places false _ d.0 refl
  copy_one places (Err TooFewPlaces) places' d =
      (λ i. (Err TooFewPlaces, d.1 i)) ∙ copy_told places true false d.0.0 (lt-leb _ _ d.0.1)
  copy_one places (Err BudgetOutOfRange) places' d = absurd d.0
  copy_one places (Err ListTooLong) places' d = absurd d.0
  copy_one places (Err NotRisingMarks) places' d = absurd d.0
  copy_one places (Err NotPlex) places' d = absurd d.0
  copy_one places (Err NotLarger) places' d = absurd d.0

  -- what was computed is what the call does
  pub computed_does : (c : Call) → Does s c (answer s c) (leaves s c)
  computed_does Step = step_does (settled s) refl
  computed_does (Run budget) = run_does budget (run_allowed budget) refl
  computed_does (Offer list) = offer_is s list
  computed_does Report = (refl, refl, refl)
  computed_does Tally = (refl, refl, refl, refl)
  computed_does (CopyOut places) = (copy_does places (settled s) (leb (held_size s) (length places)) refl refl, refl)

  -- and it does nothing else
  pub computed_only : (c : Call) (a : Answer c) (t : State) → Does s c a t → (a ≡ answer s c) × (t ≡ leaves s c)
  computed_only Step a t d = step_one a t d
  computed_only (Run budget) a t d = run_one budget a t d
  computed_only (Offer list) a t d = offer_only s list a t d
  computed_only Report a t d = ((λ i. (d.0 i, d.1 i)), d.2)
  computed_only Tally a t d = ((λ i. record { taken = d.0 i; left = d.1 i; settled = d.2 i }), d.3)
  computed_only (CopyOut places) a t d = (copy_one places a.0 a.1 d.0, d.1)

  pub determined : (c : Call) → Determined s c
  determined c = record { answer = answer s c; after = leaves s c; does = computed_does c; only = computed_only c }

formed_on : (s t : State) (c : Call) (a : Answer c) → Formed s → Does s c a t → Formed t
formed_on s t Step a o (inl d) = formed_step s t o d.1
formed_on s t Step a o (inr d) = subst Formed (sym d.2) o
formed_on s t (Run budget) (Ok m) o d = formed_steps m s t o d.1.taken
formed_on s t (Run budget) (Err e) o d = subst Formed (sym d.1) o
formed_on s t (Offer list) (Ok v) o d = subst Formed (sym d.2) (formed_offer s o (among list) d.0.larger)
formed_on s t (Offer list) (Err e) o d = subst Formed (sym d.1) o
formed_on s t Report a o d = subst Formed (sym d.2) o
formed_on s t Tally a o d = subst Formed (sym d.3) o
formed_on s t (CopyOut places) a o d = subst Formed (sym d.1) o

-- no call changes the number of marks
marks_step : (s t : State) → Stepped s t → t.marks ≡ s.marks
marks_step s t (closes b older c w h) = refl
marks_step s t (takes b older c w h q) = refl
marks_step s t (splits b older c u w h q v) = refl

marks_steps : (m : ℕ) (s t : State) → Steps m s t → t.marks ≡ s.marks
marks_steps m s t still = refl
marks_steps m s t (onward {count = x} {s' = u} p q) = marks_step u t q ∙ marks_steps x s u p

marks_on : (s t : State) (c : Call) (a : Answer c) → Does s c a t → t.marks ≡ s.marks
marks_on s t Step a (inl d) = marks_step s t d.1
marks_on s t Step a (inr d) = ap (λ x. x.marks) d.2
marks_on s t (Run budget) (Ok m) d = marks_steps m s t d.1.taken
marks_on s t (Run budget) (Err e) d = ap (λ x. x.marks) d.1
marks_on s t (Offer list) (Ok v) d = ap (λ x. x.marks) d.2
marks_on s t (Offer list) (Err e) d = ap (λ x. x.marks) d.1
marks_on s t Report a d = ap (λ x. x.marks) d.2
marks_on s t Tally a d = ap (λ x. x.marks) d.3
marks_on s t (CopyOut places) a d = ap (λ x. x.marks) d.1

pub formed_reached : (s t : State) (paid : ℕ) → Formed s → Reached Does s paid t → Formed t × (t.marks ≡ s.marks)
formed_reached s t paid o at_once = (o, refl)
formed_reached s t paid o (and_then {t = u} {paid = m} c a r d) =
    let p = formed_reached s u m o r in
    (formed_on u t c a p.0 d, marks_on u t c a d ∙ p.1)

pub calls_are_exact_lem : CallsAreExact
calls_are_exact_lem = record {
  determined = determined;
  formed = formed_on;
  sound = λ s t c a o law d. (turn s t o law c a d).after.sound;
}
