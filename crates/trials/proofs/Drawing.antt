-- Pairs that agree by chance, drawn one by one.
use Rattle.std.proofs.Common.{◌≡◌, ◌↔◌, IsTrue, ℕ, suc, ◌+◌, ◌-◌, ◌/◌, ◌%◌, ◌<◌, ◌≤◌, Bool, true, false, cond, ◌&&◌, ◌||◌, eqb, ltb, List, refl, sym, ap, ◌∙◌, inl, inr, arith}
use Rattle.std.proofs.lemmas.Bool.{cases_eq, cases_lt, lt-ltb, true≢false}
use Rattle.trials.specs.Following.{following}
use Rattle.std.proofs.lemmas.Bool.Decides.{nat_tests}
use Rattle.trials.specs.Noted.{noted, notable, Notes}
use Rattle.trials.specs.Drawn.{drawn, draws_below, falls, by_chance}
use Rattle.trials.proofs.Answering.{before}

-- the pairs before i and j as far as they are drawn
abbrev pub drawn_to : ℕ → ℕ → ℕ → ℕ → ℕ → ℕ → ℕ → ℕ → Bool
drawn_to n marks tenths s i j p q =
    notable n p q && cond (ltb p q) (before i j p q && (ltb q marks && falls marks tenths s p q)) (before i j q p && (ltb p marks && falls marks tenths s q p))

bit : (n marks i j p q : ℕ) (b x y : Bool) → i ≤ j → j < marks → (p ≡ i → q ≡ j → x ≡ b) → (q ≡ i → p ≡ j → y ≡ b) →
    cond (notable n i j && ((eqb p i && eqb q j) || (eqb p j && eqb q i))) b
    (notable n p q && cond (ltb p q) (before i j p q && (ltb q marks && x)) (before i j q p && (ltb p marks && y)))
    ≡ (notable n p q && cond (ltb p q) (before i (j + 1) p q && (ltb q marks && x)) (before i (j + 1) q p && (ltb p marks && y)))
bit n marks i j p q b x y h m f g =
    elim (cases_eq p i) [
      | inl e ↦ elim (cases_eq q j) [ inl d ↦ (let w = f e d in grind (arith, nat_tests)) | inr d ↦ grind (arith, nat_tests) ]
      | inr e ↦
          elim (cases_eq q i) [
            | inl d ↦ elim (cases_eq p j) [ inl k ↦ (let w = g d k in grind (arith, nat_tests)) | inr k ↦ grind (arith, nat_tests) ]
            | inr d ↦ grind (arith, nat_tests)
          ]
    ]

-- one pair more is drawn
pub draw_more : (n marks tenths s i j t : ℕ) (b : Bool) (rows rows' : List (List Bool)) → i ≤ j → j < marks →
    t ≡ drawn (suc (draws_below marks i + (j - i))) s → b ≡ ltb (t / 65536 % 10) tenths → Notes n rows i j b rows' →
    ((p q : ℕ) → noted rows p q ≡ drawn_to n marks tenths s i j p q) → (p q : ℕ) → noted rows' p q ≡ drawn_to n marks tenths s i (j + 1) p q
draw_more n marks tenths s i j t b rows rows' h m e a w r p q =
    w p q
    ∙ ap (cond (notable n i j && ((eqb p i && eqb q j) || (eqb p j && eqb q i))) b) (r p q)
    ∙ bit n marks i j p q b (falls marks tenths s p q) (falls marks tenths s q p) h m (λ x y. rw (x, y) said) (λ x y. rw (x, y) said)
  where
    said : falls marks tenths s i j ≡ b
    said = ap (λ u. ltb (u / 65536 % 10) tenths) (sym e) ∙ sym a

row_bit : (n i j k l p q : ℕ) (x y : Bool) → (p < q → (before i j p q && x) ≡ (before k l p q && x)) → (q < p → (before i j q p && y) ≡ (before k l q p && y)) →
    (notable n p q && cond (ltb p q) (before i j p q && x) (before i j q p && y)) ≡ (notable n p q && cond (ltb p q) (before k l p q && x) (before k l q p && y))
row_bit n i j k l p q x y f g =
    elim (cases_lt p q) [
      | inl h ↦ (let w = f h in grind (arith, nat_tests))
      | inr h ↦ elim (cases_eq p q) [ inl e ↦ grind (arith, nat_tests) | inr e ↦ (let w = g (omega (arith, h, e)) in grind (arith, nat_tests)) ]
    ]

pub row_started : (n marks tenths s i p q : ℕ) → drawn_to n marks tenths s i 0 p q ≡ drawn_to n marks tenths s i i p q
row_started n marks tenths s i p q = row_bit n i 0 i i p q _ _ (λ h. grind (arith, nat_tests)) (λ h. grind (arith, nat_tests))

pub row_done : (n marks tenths s i j p q : ℕ) → marks ≤ j → drawn_to n marks tenths s i j p q ≡ drawn_to n marks tenths s (i + 1) 0 p q
row_done n marks tenths s i j p q m = row_bit n i j (i + 1) 0 p q _ _ (λ h. grind (arith, nat_tests)) (λ h. grind (arith, nat_tests))

pub said : (b : Bool) (x t : ℕ) → IsTrue b ↔ x < t → b ≡ ltb x t
said true x t h = sym (lt-ltb x t (h.0 refl))
said false x t h = elim (cases_lt x t) [ inl l ↦ absurd (true≢false (sym (h.1 l))) | inr l ↦ grind (arith, nat_tests) ]

pub first_draw : (marks i s : ℕ) → drawn (draws_below marks i) s ≡ drawn (draws_below marks i + (i - i)) s
first_draw marks i s = ap (λ k. drawn k s) (omega arith)

pub next_draw : (marks i j s t u : ℕ) → i ≤ j → u ≡ following t → t ≡ drawn (draws_below marks i + (j - i)) s →
    u ≡ drawn (draws_below marks i + (j + 1 - i)) s
unfolding drawn
next_draw marks i j s t u h e d = e ∙ ap following d ∙ ap (λ k. drawn k s) one_more
  where
    one_more : suc (draws_below marks i + (j - i)) ≡ draws_below marks i + (j + 1 - i)
    one_more = omega (arith, h)

draws_more : (marks i : ℕ) → draws_below marks (suc i) ≡ draws_below marks i + (marks - i)
unfolding draws_below
draws_more marks i = refl

pub last_draw : (marks i j s : ℕ) → j ≡ marks → drawn (draws_below marks i + (j - i)) s ≡ drawn (draws_below marks (i + 1)) s
last_draw marks i j s e = rw (e) (ap (λ k. drawn k s) (sym (ap (draws_below marks) one_more ∙ draws_more marks i)))
  where
    one_more : i + 1 ≡ suc i
    one_more = omega arith

pub all_drawn : (n marks tenths s i p q : ℕ) → i ≡ marks → drawn_to n marks tenths s i 0 p q ≡ by_chance n marks tenths s p q
all_drawn n marks tenths s i p q e = whole (falls marks tenths s p q) (falls marks tenths s q p)
  where
    whole : (x y : Bool) → (notable n p q && cond (ltb p q) (before i 0 p q && (ltb q marks && x)) (before i 0 q p && (ltb p marks && y)))
        ≡ (notable n p q && cond (ltb p q) (ltb q marks && x) (ltb p marks && y))
    whole x y = grind (e, arith, nat_tests)

pub none_drawn : (n marks tenths s p q : ℕ) → drawn_to n marks tenths s 0 0 p q ≡ false
none_drawn n marks tenths s p q = none (falls marks tenths s p q) (falls marks tenths s q p)
  where
    none : (x y : Bool) → (notable n p q && cond (ltb p q) (before 0 0 p q && (ltb q marks && x)) (before 0 0 q p && (ltb p marks && y))) ≡ false
    none x y = grind (arith, nat_tests)
