use Rattle.std.proofs.Common.{◌≡◌, ℕ, zero, suc, ◌+◌, ◌-◌, ◌<◌, ◌≤◌, Bool, true, false, not, ◌&&◌, ◌||◌, sym, refl, ap, ◌∙◌, inl, inr, zero-le, add-zero, lt_irrefl, add-suc, arith}
use Rattle.std.proofs.lemmas.Bool.Decides.{nat_tests}
use Rattle.std.proofs.lemmas.Bool.{cases_lt, cases_Bool}
use Rattle.plex.specs.Sets.{Set, Agreement, one_if, card, ◌∩◌, ◌∪◌, ◌∖◌, only, ◌⊆◌, Kplex}

pub bit_le : (a : Bool) → one_if a ≤ 1
bit_le a = grind arith

bit_mono : (a b : Bool) → (a ≡ true → b ≡ true) → one_if a ≤ one_if b
bit_mono a b h = grind arith

-- below n is enough
pub card_mono_below : (n : ℕ) (p q : Set) → ((i : ℕ) → i < n → p i ≡ true → q i ≡ true) → card n p ≤ card n q
unfolding card
card_mono_below zero p q h = zero-le
card_mono_below (suc n) p q h =
    omega (arith, card_mono_below n p q (λ i l. h i (omega arith)), bit_mono (p n) (q n) (h n (omega arith)))

pub card_mono : (n : ℕ) (p q : Set) → p ⊆ q → card n p ≤ card n q
card_mono n p q h = card_mono_below n p q (λ i _. h i)

pub card_ext : (n : ℕ) (p q : Set) → ((i : ℕ) → i < n → p i ≡ q i) → card n p ≡ card n q
unfolding card
card_ext zero p q h = refl
card_ext (suc n) p q h = omega (arith, card_ext n p q (λ i l. h i (omega arith)), ap one_if (h n (omega arith)))

pub card_le : (n : ℕ) (p : Set) → card n p ≤ n
unfolding card
card_le zero p = zero-le
card_le (suc n) p = omega (arith, card_le n p, bit_le (p n))

bit_or : (a b : Bool) → one_if (a || b) + one_if (a && b) ≡ one_if a + one_if b
bit_or a b = grind arith

pub card_or : (n : ℕ) (p q : Set) → card n (p ∪ q) + card n (p ∩ q) ≡ card n p + card n q
unfolding card
card_or zero p q = refl
card_or (suc n) p q = omega (arith, card_or n p q, bit_or (p n) (q n))

bit_split : (a b : Bool) → one_if a ≡ one_if (a && b) + one_if (a && not b)
bit_split a b = grind arith

pub card_split : (n : ℕ) (p q : Set) → card n p ≡ card n (p ∩ q) + card n (p ∖ q)
unfolding card
card_split zero p q = refl
card_split (suc n) p q = omega (arith, card_split n p q, bit_split (p n) (q n))

pub card_none : (n : ℕ) (p : Set) → ((i : ℕ) → i < n → p i ≡ false) → card n p ≡ 0
unfolding card
card_none zero p h = refl
card_none (suc n) p h = omega (arith, card_none n p (λ i l. h i (omega arith)), ap one_if (h n (omega arith)))

pub card_full : (n : ℕ) (p : Set) → ((i : ℕ) → i < n → p i ≡ true) → card n p ≡ n
unfolding card
card_full zero p h = refl
card_full (suc n) p h = omega (arith, card_full n p (λ i l. h i (omega arith)), ap one_if (h n (omega arith)))

-- inclusion and one mark more: strictly fewer
pub card_strict : (n : ℕ) (p q : Set) (u : ℕ) → p ⊆ q → u < n → p u ≡ false → q u ≡ true → card n p < card n q
unfolding card
card_strict zero p q u h l f t = omega arith
card_strict (suc n) p q u h l f t =
    elim (cases_lt u n) [
      | inl m ↦ omega (arith, card_strict n p q u h m f t, bit_mono (p n) (q n) (h n))
      | inr m ↦
          let e : u ≡ n = omega arith in
          omega (arith, card_mono n p q h, ap (λ i. one_if (p i)) e, ap (λ i. one_if (q i)) e, ap one_if f, ap one_if t)
    ]

pub card_only : (n u : ℕ) → u < n → card n (only u) ≡ 1
unfolding card
card_only zero u l = omega arith
card_only (suc n) u l =
    elim (cases_lt u n) [
      | inl m ↦ let h = card_only n u m in grind (arith, nat_tests)
      | inr m ↦ let h = card_none n (only u) (λ i k. grind (arith, nat_tests)) in grind (arith, nat_tests)
    ]

-- a set that counts something has a member
pub card_some : (n : ℕ) (p : Set) → 0 < card n p → (i : ℕ) × (i < n) × (p i ≡ true)
unfolding card
card_some zero p h = absurd (lt_irrefl 0 h)
card_some (suc n) p h =
    elim (cases_Bool (p n)) [
      | inl e ↦ (n, omega arith, e)
      | inr e ↦ let r = card_some n p (omega (arith, ap one_if e)) in (r.0, omega arith, r.2)
    ]

-- with and without the mark u
pub card_less : (n : ℕ) (p : Set) (u : ℕ) → u < n → p u ≡ true → card n p ≡ 1 + card n (p ∖ only u)
card_less n p u l t =
    omega (arith, card_split n p (only u), card_only n u l, card_ext n (p ∩ only u) (only u) (λ i _. grind (arith, nat_tests)))

pub card_more : (n : ℕ) (p : Set) (u : ℕ) → u < n → p u ≡ false → card n (p ∪ only u) ≡ 1 + card n p
card_more n p u l t =
    omega (arith, card_or n p (only u), card_only n u l, card_none n (p ∩ only u) (λ i _. grind (arith, nat_tests)))

pub card_cat : (m n : ℕ) (p : Set) → card (m + n) p ≡ card m p + card n (λ i. p (m + i))
unfolding card
card_cat m zero p = rw (add-zero, add-zero)
card_cat m (suc n) p = rw add-suc (omega (arith, card_cat m n p))

pub heredity : (n k : ℕ) (a : Agreement) (p q : Set) → p ⊆ q → Kplex n k a q → Kplex n k a p
heredity n k a p q s h i m =
    let b = h i (s i m) in
    omega (arith, card_split n p (a i), card_split n q (a i), card_mono n (p ∖ a i) (q ∖ a i) (λ j. grind arith))

-- a set of marks below n is counted as well over more
pub card_beyond : (n m : ℕ) (s : Set) → ((i : ℕ) → s i ≡ true → i < n) → n ≤ m → card m s ≡ card n s
card_beyond n m s w l =
    let e : n + (m - n) ≡ m = omega arith in
    let z = card_none (m - n) (λ i. s (n + i)) (λ i k. let y = w (n + i) in grind arith) in
    ap (λ x. card x s) (sym e) ∙ omega (arith, card_cat n (m - n) s)
