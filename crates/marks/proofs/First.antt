-- The first mark of a list of words: the lowest bit of the first word that is not 0.
use Rattle.std.proofs.Common.{◌≡◌, ℕ, zero, suc, ◌+◌, ◌*◌, ◌/◌, ◌%◌, ◌^◌, ◌<◌, ◌≤◌, true, false, List, [], ◌∷◌, length, get_or, refl, ap, ◌∙◌, inl, inr, arith}
use mathlib.Core.Path.{fun_ext}
use lib.Count.{count_trailing_zeros}
use Rattle.std.proofs.lemmas.List.{get_or_past}
use Rattle.std.proofs.lemmas.Bool.{cases_lt}
use Rattle.plex.specs.Sets.{none}
use Rattle.plex.specs.Words.{bits_of, holds}
use Rattle.plex.proofs.Words.{bits_of_none}
use Rattle.plex.proofs.Trailing.{trailing_below, trailing_at, trailing_lt}

-- the words before place j are 0
abbrev pub Zeros : List ℕ → ℕ → Type 0
Zeros ws j = (p : ℕ) → p < j → get_or ws p 0 ≡ 0

-- so no mark before it is held
pub zeros_hold : (ws : List ℕ) (j i : ℕ) → Zeros ws j → i < 32 * j → holds ws i ≡ false
zeros_hold ws j i z h = ap (λ w. bits_of w (i % 32)) (z (i / 32) (omega arith)) ∙ bits_of_none (i % 32)

pub zeros_all : (ws : List ℕ) (j : ℕ) → length ws ≤ j → Zeros ws j → holds ws ≡ none
zeros_all ws j l z =
    fun_ext (λ i.
    elim (cases_lt (i / 32) j) [
      | inl h ↦ zeros_hold ws j i z (omega arith)
      | inr h ↦ ap (λ w. bits_of w (i % 32)) (get_or_past ws (i / 32) 0 (omega arith)) ∙ bits_of_none (i % 32)
    ])

module _ (ws : List ℕ) (j first : ℕ) (at : first ≡ 32 * j) (fits : get_or ws j 0 < 2 ^ 32) (some : get_or ws j 0 ≡ 0 → ⊥) (z : Zeros ws j) where
  pub lowest_lt : count_trailing_zeros 32 (get_or ws j 0) < 32
  lowest_lt = trailing_lt 32 (get_or ws j 0) fits some

  pub lowest_held : holds ws (first + count_trailing_zeros 32 (get_or ws j 0)) ≡ true
  lowest_held =
      let t = count_trailing_zeros 32 (get_or ws j 0) in
      let l = lowest_lt in
      let d : (first + t) / 32 ≡ j = omega arith in
      let m : (first + t) % 32 ≡ t = omega arith in
      ap (λ p. bits_of (get_or ws p 0) ((first + t) % 32)) d ∙ ap (bits_of (get_or ws j 0)) m ∙ trailing_at 32 (get_or ws j 0) l

  pub lowest_first : (i : ℕ) → i < first + count_trailing_zeros 32 (get_or ws j 0) → holds ws i ≡ false
  lowest_first i h =
      let t = count_trailing_zeros 32 (get_or ws j 0) in
      let l = lowest_lt in
      elim (cases_lt i (32 * j)) [
        | inl k ↦ zeros_hold ws j i z k
        | inr k ↦ (let d : i / 32 ≡ j = omega arith in
            let m : i % 32 < t = omega arith in
            ap (λ p. bits_of (get_or ws p 0) (i % 32)) d ∙ trailing_below 32 (get_or ws j 0) (i % 32) m)
      ]

-- four words of 0 hold nothing
abbrev four : List ℕ
four = 0 ∷ 0 ∷ 0 ∷ 0 ∷ []

pub zeros_none : holds (0 ∷ 0 ∷ 0 ∷ 0 ∷ []) ≡ none
zeros_none = fun_ext (λ i. ap (λ w. bits_of w (i % 32)) (zero_at (i / 32)) ∙ bits_of_none (i % 32))
  where
    zero_at : (j : ℕ) → get_or four j 0 ≡ 0
    zero_at zero = refl
    zero_at (suc zero) = refl
    zero_at (suc (suc zero)) = refl
    zero_at (suc (suc (suc zero))) = refl
    zero_at (suc (suc (suc (suc j)))) = refl
