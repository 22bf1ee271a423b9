-- The least of a set, found by going through its marks, is the least, and there is one.
use Rattle.std.proofs.Common.{◌≡◌, ℕ, zero, suc, Bool, true, false, ltb, Some, None, Option, sym, refl, ap, ◌∙◌, inl, inr, arith}
use Rattle.std.proofs.lemmas.Bool.{cases_lt, cases_eq, ltb-true, ltb-false, cond_both, true≢false}
use Rattle.plex.specs.Sets.{Set}
use Rattle.plex.specs.Least.{choose, least, Least}

choose_step : (n : ℕ) (p : Set) (f : ℕ → ℕ) (b : Bool) (o : Option ℕ) → p n ≡ b → Least n p f o → Least (suc n) p f (choose b o n f)
choose_step n p f false None e h = λ i l. let c = cases_eq i n in grind arith
choose_step n p f false (Some u) e h =
    (omega arith, h.1, (λ i l m. let c = cases_eq i n in let g = h.2 i in grind arith), h.3)
choose_step n p f true None e h =
    (omega arith, e, (λ i l m. let c = cases_eq i n in let g = h i in grind arith), (λ i l m. let g = h i l in grind arith))
choose_step n p f true (Some u) e h =
    cond_both (ltb (f n) (f u)) (Some n) (Some u) (λ o. Least (suc n) p f o)
    (λ t. let lt = ltb-true (f n) (f u) t in
    (omega arith, e, (λ i l m. let c = cases_eq i n in let g = h.2 i in grind arith), (λ i l m. let g = h.2 i l m in omega arith)))
    (λ t. let le = ltb-false (f n) (f u) t in
    (omega arith, h.1, (λ i l m. let c = cases_eq i n in let g = h.2 i in grind arith), h.3))

pub least_is : (n : ℕ) (p : Set) (f : ℕ → ℕ) → Least n p f (least n p f)
unfolding least
least_is zero p f = λ i l. let z : ⊥ = omega arith in absurd z
least_is (suc n) p f = choose_step n p f (p n) (least n p f) refl (least_is n p f)

pub least_unique : (n : ℕ) (p : Set) (f : ℕ → ℕ) (o o' : Option ℕ) → Least n p f o → Least n p f o' → o ≡ o'
least_unique n p f None None l m = refl
least_unique n p f None (Some v) l m = absurd (true≢false (sym m.1 ∙ l v m.0))
least_unique n p f (Some u) None l m = absurd (true≢false (sym l.1 ∙ m u l.0))
least_unique n p f (Some u) (Some v) l m =
    ap Some (elim (cases_lt u v) [
      | inl a ↦ absurd (omega (arith, m.3 u a l.1, l.2 v m.0 m.1))
      | inr a ↦ elim (cases_lt v u) [ inl b ↦ absurd (omega (arith, l.3 v b m.1, m.2 u l.0 l.1)) | inr b ↦ omega arith ]
    ])
