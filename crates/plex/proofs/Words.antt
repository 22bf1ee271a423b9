use Rattle.std.proofs.Common.{◌≡◌, ℕ, zero, suc, ◌+◌, ◌-◌, ◌*◌, ◌/◌, ◌%◌, ◌^◌, ◌<◌, false, not, ◌&&◌, ◌||◌, eqb, List, [], ◌∷◌, length, get_or, set, sym, refl, ap, ◌∙◌, inl, inr, pow-suc, div-one, one-add, arith, shr-shr}
use native.Mathlib.Nat.{zero-div}
use lib.Bits.{bit_and, bit_or, and_mask, and_step, or_step, and_shr, or_shr}
use lib.Count.{ones, ones_step}
use Rattle.std.proofs.lemmas.Bool.{cases_eq}
use Rattle.std.proofs.lemmas.List.{get_or-set_same, get_or-set_other}
use Rattle.plex.specs.Words.{Words}
use Rattle.std.proofs.lemmas.Bool.Decides.{nat_tests}
use Rattle.std.proofs.lemmas.Nat.{pow_below}
use Rattle.plex.specs.Sets.{Set, one_if, card, ◌∪◌, ◌∖◌, only}
use Rattle.plex.specs.Words.{bits_of, holds, ones_in}
use Rattle.plex.proofs.Count.{card_ext, card_cat}

pub bits_of_zero : (w : ℕ) → one_if (bits_of w 0) ≡ w % 2
unfolding bits_of
bits_of_zero w = rw div-one (grind (arith, nat_tests))

pub bits_of_suc : (w i : ℕ) → bits_of w (suc i) ≡ bits_of (w / 2) i
unfolding bits_of
bits_of_suc w i = ap (λ x. eqb (x % 2) 1) (ap (λ j. w / 2 ^ j) (sym (one-add i)) ∙ sym (shr-shr w 1 i))

pub card_first : (n : ℕ) (p : Set) → card (suc n) p ≡ one_if (p 0) + card n (λ i. p (suc i))
unfolding card
card_first zero p = refl
card_first (suc n) p = omega (arith, card_first n p)

pub card_word : (k w : ℕ) → w < 2 ^ k → card k (bits_of w) ≡ ones w
unfolding card ones
card_word zero w h = let e : w ≡ 0 = omega arith in sym (ap ones e)
card_word (suc k) w h =
    omega (
      arith,
      card_first k (bits_of w),
      bits_of_zero w,
      ones_step w,
      card_word k (w / 2) (omega arith),
      card_ext k (λ i. bits_of w (suc i)) (bits_of (w / 2)) (λ i _. bits_of_suc w i),
    )

low_and : (x y : ℕ) → eqb (bit_and x y % 2) 1 ≡ (eqb (x % 2) 1 && eqb (y % 2) 1)
low_and x y = let e = and_step x y in grind (arith, nat_tests)

low_or : (x y : ℕ) → eqb (bit_or x y % 2) 1 ≡ (eqb (x % 2) 1 || eqb (y % 2) 1)
low_or x y = let e = or_step x y in grind (arith, nat_tests)

pub bits_of_and : (v w i : ℕ) → bits_of (bit_and v w) i ≡ (bits_of v i && bits_of w i)
unfolding bits_of
bits_of_and v w i = ap (λ x. eqb (x % 2) 1) (and_shr v w i) ∙ low_and (v / 2 ^ i) (w / 2 ^ i)

pub bits_of_or : (v w i : ℕ) → bits_of (bit_or v w) i ≡ (bits_of v i || bits_of w i)
unfolding bits_of
bits_of_or v w i = ap (λ x. eqb (x % 2) 1) (or_shr v w i) ∙ low_or (v / 2 ^ i) (w / 2 ^ i)

-- the first word, and the words after it
pub holds_low : (w : ℕ) (ws : List ℕ) (i : ℕ) → i < 32 → holds (w ∷ ws) i ≡ bits_of w i
holds_low w ws i h = let e : i / 32 ≡ 0 = omega arith in let f : i % 32 ≡ i = omega arith in rw (e, f)

pub holds_high : (w : ℕ) (ws : List ℕ) (i : ℕ) → holds (w ∷ ws) (32 + i) ≡ holds ws i
holds_high w ws i = let e : (32 + i) / 32 ≡ suc (i / 32) = omega arith in let f : (32 + i) % 32 ≡ i % 32 = omega arith in rw (e, f)

pub card_words : (ws : List ℕ) → Words ws → card (length ws * 32) (holds ws) ≡ ones_in ws
unfolding card
card_words [] h = refl
card_words (w ∷ ws) h =
    let e : suc (length ws) * 32 ≡ 32 + length ws * 32 = omega arith in
    rw e (omega (
      arith,
      card_cat 32 (length ws * 32) (holds (w ∷ ws)),
      card_words ws h.1,
      card_word 32 w h.0,
      card_ext 32 (holds (w ∷ ws)) (bits_of w) (holds_low w ws),
      card_ext (length ws * 32) (λ i. holds (w ∷ ws) (32 + i)) (holds ws) (λ i _. holds_high w ws i),
    ))

pub bits_of_none : (j : ℕ) → bits_of 0 j ≡ false
unfolding bits_of
bits_of_none j = rw zero-div

pub bits_of_pow : (b j : ℕ) → bits_of (2 ^ b) j ≡ eqb j b
unfolding bits_of
bits_of_pow zero zero = refl
bits_of_pow zero (suc j) = bits_of_suc 1 j ∙ bits_of_none j ∙ grind (arith, nat_tests)
bits_of_pow (suc b) zero = rw div-one (grind (arith, nat_tests, pow-suc 2 b))
bits_of_pow (suc b) (suc j) =
    let e : 2 ^ suc b / 2 ≡ 2 ^ b = omega arith in
    let h = bits_of_pow b j in
    bits_of_suc (2 ^ suc b) j ∙ ap (λ x. bits_of x j) e ∙ h ∙ grind (arith, nat_tests)

pub bits_of_not : (k w j : ℕ) → w < 2 ^ k → j < k → bits_of (2 ^ k - 1 - w) j ≡ not (bits_of w j)
unfolding bits_of
bits_of_not zero w j h l = let z : ⊥ = omega arith in absurd z
bits_of_not (suc k) w zero h l = rw (div-one (2 ^ suc k - 1 - w), div-one w) (grind (arith, nat_tests, pow-suc 2 k))
bits_of_not (suc k) w (suc j) h l =
    let e : (2 ^ suc k - 1 - w) / 2 ≡ 2 ^ k - 1 - w / 2 = omega arith in
    bits_of_suc (2 ^ suc k - 1 - w) j ∙ ap (λ x. bits_of x j) e ∙ bits_of_not k (w / 2) j (omega arith) (omega arith) ∙ ap not (sym (bits_of_suc w j))

pub holds_and : (us vs cs : List ℕ) → ((j : ℕ) → get_or cs j 0 ≡ bit_and (get_or us j 0) (get_or vs j 0)) → (i : ℕ) → holds cs i ≡ (holds us i && holds vs i)
holds_and us vs cs h i = rw (h (i / 32)) (bits_of_and (get_or us (i / 32) 0) (get_or vs (i / 32) 0) (i % 32))

-- one word changed, where its bits are those of a test
pub holds_put : (ws : List ℕ) (m v : ℕ) (q : Set) → m < length ws → ((b : ℕ) → b < 32 → bits_of v b ≡ q (m * 32 + b))
    → ((j : ℕ) → (j / 32 ≡ m → ⊥) → holds ws j ≡ q j) → (j : ℕ) → holds (set ws m v) j ≡ q j
holds_put ws m v q l h k j =
    elim (cases_eq (j / 32) m) [
      | inl e ↦ rw (e, get_or-set_same ws m v 0 l) (h (j % 32) (omega arith) ∙ ap q (omega arith))
      | inr e ↦ rw (get_or-set_other ws m (j / 32) v 0 e) (k j e)
    ]

holds_at : (ws : List ℕ) (m b : ℕ) → b < 32 → holds ws (m * 32 + b) ≡ bits_of (get_or ws m 0) b
holds_at ws m b h = let e : (m * 32 + b) / 32 ≡ m = omega arith in let f : (m * 32 + b) % 32 ≡ b = omega arith in rw (e, f)

pub holds_insert : (ws : List ℕ) (i : ℕ) → i / 32 < length ws → (j : ℕ)
    → holds (set ws (i / 32) (bit_or (get_or ws (i / 32) 0) (2 ^ (i % 32)))) j ≡ (holds ws ∪ only i) j
holds_insert ws i l =
    holds_put ws (i / 32) (bit_or (get_or ws (i / 32) 0) (2 ^ (i % 32))) (holds ws ∪ only i) l
    (λ b h. bits_of_or (get_or ws (i / 32) 0) (2 ^ (i % 32)) b ∙ cc (holds_at ws (i / 32) b h, bits_of_pow (i % 32) b, same b h))
    (λ j h. grind (arith, nat_tests))
  where
    same : (b : ℕ) → b < 32 → eqb b (i % 32) ≡ eqb (i / 32 * 32 + b) i
    same b h = grind (arith, nat_tests)

pub holds_remove : (ws : List ℕ) (i : ℕ) → i / 32 < length ws → (j : ℕ)
    → holds (set ws (i / 32) (bit_and (get_or ws (i / 32) 0) (2 ^ 32 - 1 - 2 ^ (i % 32)))) j ≡ (holds ws ∖ only i) j
holds_remove ws i l =
    holds_put ws (i / 32) (bit_and (get_or ws (i / 32) 0) (2 ^ 32 - 1 - 2 ^ (i % 32))) (holds ws ∖ only i) l
    (λ b h. bits_of_and (get_or ws (i / 32) 0) (2 ^ 32 - 1 - 2 ^ (i % 32)) b
    ∙ cc (holds_at ws (i / 32) b h, bits_of_not 32 (2 ^ (i % 32)) b (pow_below (i % 32) 32 (omega arith)) h, bits_of_pow (i % 32) b, same b h))
    (λ j h. grind (arith, nat_tests))
  where
    same : (b : ℕ) → b < 32 → eqb b (i % 32) ≡ eqb (i / 32 * 32 + b) i
    same b h = grind (arith, nat_tests)

-- the test of a bit, as a program writes it
pub bit_test : (w b : ℕ) → eqb (bit_and (w / 2 ^ b) 1) 1 ≡ bits_of w b
unfolding bits_of
bit_test w b = ap (λ x. eqb x 1) (and_mask (w / 2 ^ b) 1)
