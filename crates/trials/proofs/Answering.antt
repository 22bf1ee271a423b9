-- Pairs of marks entered as a test answers, one by one: the lower mark rises, and for each lower mark the higher one.
use Rattle.std.proofs.Common.{◌≡◌, ℕ, ◌+◌, ◌<◌, ◌≤◌, Bool, true, false, ◌&&◌, ◌||◌, eqb, ltb, sym, ap, ◌∙◌, subst, inl, inr, List, arith}
use Rattle.std.proofs.lemmas.Bool.{cases_eq, true≢false}
use Rattle.std.proofs.lemmas.Bool.Decides.{nat_tests}
use Rattle.sheet.specs.Entering.{entered, Entered}
use Rattle.trials.specs.Entries.{AsAnswered}

-- whether the pair p and q comes before the pair i and j
abbrev pub before : ℕ → ℕ → ℕ → ℕ → Bool
before i j p q = ltb p i || (eqb p i && ltb q j)

-- the pairs before i and j are as the test answered, and the others do not agree yet
abbrev pub AnsweredTo : (ℕ → ℕ → Bool → Type 0) → ℕ → ℕ → ℕ → (ℕ → ℕ → Bool) → Type 0
AnsweredTo says n i j agrees =
    (p q : ℕ) → p < q → q < n → (before i j p q ≡ true → says p q (agrees p q)) × (before i j p q ≡ false → agrees p q ≡ false)

module _ (says : ℕ → ℕ → Bool → Type 0) (n : ℕ) where
  -- the same pairs come before
  moved : (i j k l : ℕ) (agrees : ℕ → ℕ → Bool) → ((p q : ℕ) → p < q → q < n → before k l p q ≡ before i j p q) →
      AnsweredTo says n i j agrees → AnsweredTo says n k l agrees
  moved i j k l agrees same a p q h m =
      let e = same p q h m in (λ b. (a p q h m).0 (sym e ∙ b), λ b. (a p q h m).1 (sym e ∙ b))

  pub none_answered : (agrees : ℕ → ℕ → Bool) → ((i j : ℕ) → agrees i j ≡ false) → AnsweredTo says n 0 0 agrees
  none_answered agrees none p q h m = (λ b. absurd (true≢false (sym b ∙ grind (arith, nat_tests))), λ _. none p q)

  pub row_begun : (i : ℕ) (agrees : ℕ → ℕ → Bool) → AnsweredTo says n i 0 agrees → AnsweredTo says n i (i + 1) agrees
  row_begun i agrees = moved i 0 i (i + 1) agrees (λ p q h m. grind (arith, nat_tests))

  pub row_ended : (i j : ℕ) (agrees : ℕ → ℕ → Bool) → n ≤ j → AnsweredTo says n i j agrees → AnsweredTo says n (i + 1) 0 agrees
  row_ended i j agrees e = moved i j (i + 1) 0 agrees (λ p q h m. grind (arith, nat_tests))

  pub all_answered : (i : ℕ) (agrees : ℕ → ℕ → Bool) → n ≤ i → AnsweredTo says n i 0 agrees → AsAnswered says n agrees
  all_answered i agrees e a p q h m = (a p q h m).0 (grind (arith, nat_tests))

  -- the test answers for one pair more
  pub one_answered : (i j : ℕ) (b : Bool) (agrees agrees' : ℕ → ℕ → Bool) → i < j → j < n → says i j b →
      ((p q : ℕ) → p < q → agrees' p q ≡ (agrees p q || (b && (eqb p i && eqb q j)))) →
      AnsweredTo says n i j agrees → AnsweredTo says n i (j + 1) agrees'
  one_answered i j b agrees agrees' h m s e a p q h' m' =
      elim (cases_eq p i) [
        | inl x ↦ elim (cases_eq q j) [ inl y ↦ here x y | inr y ↦ there (grind (arith, nat_tests)) (grind (arith, nat_tests)) ]
        | inr x ↦ there (grind (arith, nat_tests)) (grind (arith, nat_tests))
      ]
    where
      there : before i (j + 1) p q ≡ before i j p q → (eqb p i && eqb q j) ≡ false →
          (before i (j + 1) p q ≡ true → says p q (agrees' p q)) × (before i (j + 1) p q ≡ false → agrees' p q ≡ false)
      there same other =
          let k : agrees' p q ≡ agrees p q = e p q h' ∙ grind (other, arith) in (
            λ t. subst (says p q) (sym k) ((a p q h' m').0 (sym same ∙ t)),
            λ t. k ∙ (a p q h' m').1 (sym same ∙ t),
          )

      new_one : agrees' i j ≡ b
      new_one =
          let none : agrees i j ≡ false = (a i j h m).1 (grind (arith, nat_tests)) in
          e i j h ∙ grind (none, arith, nat_tests)

      here : p ≡ i → q ≡ j → (before i (j + 1) p q ≡ true → says p q (agrees' p q)) × (before i (j + 1) p q ≡ false → agrees' p q ≡ false)
      here x y = (
        λ _. subst (λ u. says u q (agrees' u q)) (sym x) (subst (λ v. says i v (agrees' i v)) (sym y) (subst (says i j) (sym new_one) s)),
        λ t. absurd (true≢false (grind (x, y, arith, nat_tests) ∙ t)),
      )

-- an entered pair, where the lower mark is given first
pub one_entered : (ws : List ℕ) (m n i j v : ℕ) (ws' : List ℕ) → m ≡ n → i < j → Entered ws m i j v ws' →
    (p q : ℕ) → p < q → entered ws' n p q ≡ (entered ws n p q || (true && (eqb p i && eqb q j)))
one_entered ws m n i j v ws' d h e p q less =
    subst (λ k. entered ws' k p q ≡ (entered ws k p q || ((eqb p i && eqb q j) || (eqb p j && eqb q i)))) d (e.agreement p q)
    ∙ ap (λ b. entered ws n p q || b) (only_one (eqb p i && eqb q j) (eqb p j && eqb q i) (grind (arith, nat_tests)))
  where
    only_one : (x y : Bool) → y ≡ false → (x || y) ≡ (true && x)
    only_one x y none = grind arith
