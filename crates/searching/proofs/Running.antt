-- From every well-formed search there is one run of a budget.
use Rattle.std.proofs.Common.{◌≡◌, ℕ, zero, suc, ◌+◌, Bool, true, false, ◌⊎◌, sym, refl, ap, ◌∙◌, subst, inl, inr, zero-le, arith}
use Rattle.std.proofs.lemmas.Bool.{cases_Bool}
use Rattle.searching.specs.States.{State, settled}
use Rattle.searching.specs.Steps.{Stepped, Steps, still, onward}
use Rattle.searching.specs.Sound.{Formed}
use Rattle.searching.specs.Calls.{Ran}
use Rattle.searching.specs.Computed.{next, run_on, run}
use Rattle.searching.proofs.Forming.{formed_step}
use Rattle.searching.proofs.Runs.{settled_stops}
use Rattle.searching.proofs.Stepping.{step_only, step_exists}

-- a step and then more
front : (t : ℕ) (s u v : State) → Stepped s u → Steps t u v → Steps (1 + t) s v
front t s u v p still = onward still p
front t s u v p (onward {count = x} {s' = y} q r) =
    let e : (1 + x) + 1 ≡ 1 + (x + 1) = omega arith in
    subst (λ m. Steps m s v) e (onward (front x s u y p q) r)

-- the first of some steps
pub first : (t : ℕ) (s v : State) → Steps t s v →
    ((t ≡ 0) × (v ≡ s)) ⊎ ((u : State) × (m : ℕ) × Stepped s u × Steps m u v × (t ≡ m + 1))
first t s v still = inl (refl, refl)
first t s v (onward {count = x} {s' = y} p q) =
    elim (first x s y p) [
      | inl w ↦ inr (v, 0, subst (λ z. Stepped z v) w.1 q, still, omega (arith, w.0))
      | inr w ↦ inr (w.0, w.1 + 1, w.2, onward w.3 q, omega (arith, w.4))
    ]

formed_next : (s : State) → Formed s → settled s ≡ false → Formed (next s)
formed_next s o e = formed_step s (next s) o (step_exists s o e)

pub formed_steps : (m : ℕ) (s t : State) → Formed s → Steps m s t → Formed t
formed_steps m s t o still = o
formed_steps m s t o (onward {count = x} {s' = u} p q) = formed_step u t (formed_steps x s u o p) q

run_goes : (budget : ℕ) (s : State) → Formed s →
    ((u : State) → Formed u → Ran budget u (run budget u).count (run budget u).after) →
    (x : Bool) → settled s ≡ x → Ran (suc budget) s (run_on (run budget) s x).count (run_on (run budget) s x).after
run_goes budget s o rest true e = record { taken = still; within = zero-le; until = λ _. e }
run_goes budget s o rest false e =
    let r = rest (next s) (formed_next s o e) in record {
      taken = front (run budget (next s)).count s (next s) (run budget (next s)).after (step_exists s o e) r.taken;
      within = omega (arith, r.within);
      until = λ l. r.until (omega arith);
    }

pub run_is : (budget : ℕ) (s : State) → Formed s → Ran budget s (run budget s).count (run budget s).after
unfolding run
run_is zero s o = record { taken = still; within = zero-le; until = λ l. absurd (omega arith) }
run_is (suc budget) s o = run_goes budget s o (run_is budget) (settled s) refl

pub run_only : (budget : ℕ) (s : State) (m : ℕ) (t : State) → Formed s → Ran budget s m t →
    (m ≡ (run budget s).count) × (t ≡ (run budget s).after)
unfolding run
run_only zero s m t o r =
    elim (first m s t r.taken) [ inl w ↦ (w.0, w.1) | inr w ↦ absurd (omega (arith, r.within, w.4)) ]
run_only (suc budget) s m t o r =
    elim (first m s t r.taken) [
      | inl w ↦ (let e : settled s ≡ true = ap settled (sym w.1) ∙ r.until (omega (arith, w.0)) in
          (w.0 ∙ ap (λ x. (run_on (run budget) s x).count) (sym e), w.1 ∙ ap (λ x. (run_on (run budget) s x).after) (sym e)))
      | inr w ↦ (let p = w.2 in
          let e : settled s ≡ false = elim (cases_Bool (settled s)) [ inl f ↦ absurd (settled_stops s w.0 f p) | inr f ↦ f ] in
          let q : Steps w.1 (next s) t = subst (λ z. Steps w.1 z t) (step_only s w.0 o p) w.3 in
          let i = run_only budget (next s) w.1 t (formed_next s o e)
          (record { taken = q; within = omega (arith, r.within, w.4); until = λ l. r.until (omega (arith, w.4)) }) in
          (omega (arith, i.0, w.4, ap (λ x. (run_on (run budget) s x).count) e), i.1 ∙ ap (λ x. (run_on (run budget) s x).after) (sym e)))
    ]
