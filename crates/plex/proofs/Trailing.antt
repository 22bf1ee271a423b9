-- The lowest bit of a word.
use Rattle.std.proofs.Common.{◌≡◌, ℕ, zero, suc, ◌/◌, ◌%◌, ◌^◌, ◌<◌, Bool, true, false, ap, ◌∙◌, inl, inr, pow-suc, arith}
use lib.Count.{count_trailing_zeros, under}
use Rattle.std.proofs.lemmas.Bool.{cases_eq}
use Rattle.plex.specs.Sets.{one_if}
use Rattle.plex.specs.Words.{bits_of}
use Rattle.plex.proofs.Words.{bits_of_zero, bits_of_suc}

one_if_0 : (b : Bool) → one_if b ≡ 0 → b ≡ false
one_if_0 b e = grind arith

one_if_1 : (b : Bool) → one_if b ≡ 1 → b ≡ true
one_if_1 b e = grind arith

trailing_even : (k w : ℕ) → w % 2 ≡ 0 → count_trailing_zeros (suc k) w ≡ suc (count_trailing_zeros k (w / 2))
unfolding count_trailing_zeros
trailing_even k w e = ap (λ d. under d (count_trailing_zeros k (w / 2))) e

trailing_odd : (k w : ℕ) → w % 2 ≡ 1 → count_trailing_zeros (suc k) w ≡ 0
unfolding count_trailing_zeros
trailing_odd k w e = ap (λ d. under d (count_trailing_zeros k (w / 2))) e

-- the bits below it are 0
pub trailing_below : (k w b : ℕ) → b < count_trailing_zeros k w → bits_of w b ≡ false
unfolding count_trailing_zeros
trailing_below zero w b h = absurd (omega arith)
trailing_below (suc k) w zero h =
    elim (cases_eq (w % 2) 0) [
      | inl e ↦ one_if_0 (bits_of w 0) (bits_of_zero w ∙ e)
      | inr e ↦ (let z : ⊥ = omega (arith, trailing_odd k w (omega arith)) in absurd z)
    ]
trailing_below (suc k) w (suc b) h =
    elim (cases_eq (w % 2) 0) [
      | inl e ↦ bits_of_suc w b ∙ trailing_below k (w / 2) b (omega (arith, trailing_even k w e))
      | inr e ↦ (let z : ⊥ = omega (arith, trailing_odd k w (omega arith)) in absurd z)
    ]

-- it is 1
pub trailing_at : (k w : ℕ) → count_trailing_zeros k w < k → bits_of w (count_trailing_zeros k w) ≡ true
trailing_at zero w h = absurd (omega arith)
trailing_at (suc k) w h =
    elim (cases_eq (w % 2) 0) [
      | inl e ↦ (let t = trailing_even k w e in
          ap (bits_of w) t ∙ bits_of_suc w (count_trailing_zeros k (w / 2)) ∙ trailing_at k (w / 2) (omega arith))
      | inr e ↦ (let o : w % 2 ≡ 1 = omega arith in
          ap (bits_of w) (trailing_odd k w o) ∙ one_if_1 (bits_of w 0) (bits_of_zero w ∙ o))
    ]

-- a word that is not 0 has one
pub trailing_lt : (k w : ℕ) → w < 2 ^ k → (w ≡ 0 → ⊥) → count_trailing_zeros k w < k
trailing_lt zero w h n = absurd (n (omega arith))
trailing_lt (suc k) w h n =
    elim (cases_eq (w % 2) 0) [
      | inl e ↦ omega (arith, trailing_even k w e, trailing_lt k (w / 2) (omega (arith, pow-suc 2 k)) (λ z. n (omega arith)))
      | inr e ↦ omega (arith, trailing_odd k w (omega arith))
    ]
