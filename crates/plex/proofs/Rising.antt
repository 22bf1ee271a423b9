-- The rising list of a set: its length, its marks, their order.
use Rattle.std.proofs.Common.{◌≡◌, ℕ, zero, suc, ◌<◌, Bool, true, false, ◌⊎◌, List, [], ◌∷◌, ◌++◌, length, get_or, sym, refl, ap, ◌∙◌, ap₂, inl, inr, arith, length-append}
use Rattle.std.proofs.lemmas.Bool.{cases_lt}
use Rattle.std.proofs.lemmas.List.{get_or_append_left, get_or_push}
use Rattle.std.proofs.lemmas.Bool.Decides.{nat_tests}
use Rattle.plex.specs.Sets.{Set, one_if, card, ◌∖◌, only, if_in, rising}

length_if_in : (b : Bool) (n : ℕ) → length (if_in b n) ≡ one_if b
length_if_in true n = refl
length_if_in false n = refl

pub length_rising : (n : ℕ) (s : Set) → length (rising n s) ≡ card n s
unfolding rising card
length_rising zero s = refl
length_rising (suc n) s = rw length-append (let e = length_rising n s in let f = length_if_in (s n) n in omega arith)

-- a place of the longer list: one of the shorter list, or the last
place_in : (xs : List ℕ) (b : Bool) (n p : ℕ) → p < length (xs ++ if_in b n) →
    ((p < length xs) × (get_or (xs ++ if_in b n) p 0 ≡ get_or xs p 0)) ⊎ ((b ≡ true) × (p ≡ length xs) × (get_or (xs ++ if_in b n) p 0 ≡ n))
place_in xs true n p h =
    elim (cases_lt p (length xs)) [
      | inl l ↦ inl (l, get_or_append_left xs (n ∷ []) 0 p l)
      | inr l ↦ (let e : p ≡ length xs = omega (arith, length-append xs (n ∷ [])) in
          inr (refl, e, get_or_push xs n 0 p (sym e)))
    ]
place_in xs false n p h =
    let l : p < length xs = omega (arith, length-append xs []) in inl (l, get_or_append_left xs [] 0 p l)

pub rising_within : (n : ℕ) (s : Set) (p : ℕ) → p < length (rising n s) → (get_or (rising n s) p 0 < n) × (s (get_or (rising n s) p 0) ≡ true)
unfolding rising
rising_within zero s p h = absurd (omega arith)
rising_within (suc n) s p h =
    elim (place_in (rising n s) (s n) n p h) [
      | inl w ↦ (let r = rising_within n s p w.0 in (omega (arith, w.1, r.0), ap s w.1 ∙ r.1))
      | inr w ↦ (omega (arith, w.2), ap s w.2 ∙ w.0)
    ]

pub rising_all : (n : ℕ) (s : Set) (i : ℕ) → i < n → s i ≡ true → (p : ℕ) × (p < length (rising n s)) × (get_or (rising n s) p 0 ≡ i)
unfolding rising
rising_all zero s i h t = absurd (omega arith)
rising_all (suc n) s i h t =
    elim (cases_lt i n) [
      | inl l ↦ (let r = rising_all n s i l t in
          (r.0, omega (arith, r.1, length-append (rising n s) (if_in (s n) n)), get_or_append_left (rising n s) (if_in (s n) n) 0 r.0 r.1 ∙ r.2))
      | inr l ↦ (let e : i ≡ n = omega arith in
          let f : if_in (s n) n ≡ n ∷ [] = ap (λ b. if_in b n) (ap s (sym e) ∙ t) in (
            length (rising n s),
            omega (arith, length-append (rising n s) (if_in (s n) n), ap length f),
            ap (λ ys. get_or (rising n s ++ ys) (length (rising n s)) 0) f ∙ get_or_push (rising n s) n 0 (length (rising n s)) refl ∙ sym e,
          ))
    ]

pub rising_rises : (n : ℕ) (s : Set) (p q : ℕ) → p < q → q < length (rising n s) → get_or (rising n s) p 0 < get_or (rising n s) q 0
unfolding rising
rising_rises zero s p q l h = absurd (omega arith)
rising_rises (suc n) s p q l h =
    elim (place_in (rising n s) (s n) n q h) [
      | inl w ↦ (let r = rising_rises n s p q l w.0 in
          let e = get_or_append_left (rising n s) (if_in (s n) n) 0 p (omega (arith, w.0)) in
          omega (arith, w.1))
      | inr w ↦ (let m : p < length (rising n s) = omega (arith, w.1) in
          let e = get_or_append_left (rising n s) (if_in (s n) n) 0 p m in
          omega (arith, w.2, (rising_within n s p m).0))
    ]

-- the list of an empty set, and of a set with its lowest mark
pub rising_none : (n : ℕ) (s : Set) → ((i : ℕ) → i < n → s i ≡ false) → rising n s ≡ []
unfolding rising
rising_none zero s h = refl
rising_none (suc n) s h = ap₂ ◌++◌ (rising_none n s (λ i l. h i (omega arith))) (ap (λ b. if_in b n) (h n (omega arith)))

rising_same : (n : ℕ) (s t : Set) → ((i : ℕ) → i < n → s i ≡ t i) → rising n s ≡ rising n t
unfolding rising
rising_same zero s t h = refl
rising_same (suc n) s t h = ap₂ ◌++◌ (rising_same n s t (λ i l. h i (omega arith))) (ap (λ b. if_in b n) (h n (omega arith)))

kept_other : (s : Set) (u i : ℕ) → (i ≡ u → ⊥) → (s ∖ only u) i ≡ s i
kept_other s u i h = grind (arith, nat_tests)

pub rising_first : (n : ℕ) (s : Set) (u : ℕ) → u < n → s u ≡ true → ((i : ℕ) → i < u → s i ≡ false) → rising n s ≡ u ∷ rising n (s ∖ only u)
unfolding rising
rising_first zero s u l t h = absurd (omega arith)
rising_first (suc n) s u l t h =
    elim (cases_lt u n) [
      | inl m ↦ ap₂ ◌++◌ (rising_first n s u m t h) (ap (λ b. if_in b n) (sym (kept_other s u n (λ e. omega arith))))
      | inr m ↦ (let e : n ≡ u = omega arith in
          let gone : (s ∖ only u) n ≡ false = grind (arith, nat_tests) in
          ap₂ ◌++◌ (rising_none n s (λ i k. h i (omega arith))) (ap (λ b. if_in b n) (ap s e ∙ t))
          ∙ ap (λ m. m ∷ []) e
          ∙ sym (ap (λ ys. u ∷ ys) (ap₂ ◌++◌ (rising_none n (s ∖ only u) (λ i k. kept_other s u i (λ f. omega arith) ∙ h i (omega arith))) (ap (λ b. if_in b n) gone))))
    ]
