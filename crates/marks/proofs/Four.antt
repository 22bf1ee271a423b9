-- What four words hold: how many marks, and what becomes of them where a word is combined or a bit is set or cleared.
use Rattle.std.proofs.Common.{◌≡◌, ℕ, ◌+◌, ◌-◌, ◌*◌, ◌/◌, ◌%◌, ◌^◌, ◌<◌, ◌≤◌, Bool, true, false, not, ◌&&◌, ◌||◌, eqb, List, [], ◌∷◌, length, get_or, set, sym, ap, ◌∙◌, ap₂, inl, inr, arith}
use mathlib.Core.Path.{fun_ext}
use lib.Bits.{bit_and, bit_or}
use lib.Count.{ones}
use Rattle.std.proofs.lemmas.Nat.{one_shl}
use Rattle.std.proofs.lemmas.List.{get_or_past}
use Rattle.std.proofs.lemmas.Bool.{eqb-true, cases_lt, both_ways}
use Rattle.plex.specs.Sets.{Set, card, only, ◌∪◌, ◌∖◌, Within}
use Rattle.plex.specs.Words.{bits_of, holds}
use Rattle.plex.proofs.Words.{card_words, holds_insert, holds_remove, bits_of_none}

pub card_four : (ws : List ℕ) → length ws ≡ 4 → get_or ws 0 0 < 2 ^ 32 → get_or ws 1 0 < 2 ^ 32 → get_or ws 2 0 < 2 ^ 32 → get_or ws 3 0 < 2 ^ 32 →
    card 128 (holds ws) ≡ ones (get_or ws 0 0) + ones (get_or ws 1 0) + ones (get_or ws 2 0) + ones (get_or ws 3 0)
card_four [] l = absurd (omega arith)
card_four (a ∷ []) l = absurd (omega arith)
card_four (a ∷ b ∷ []) l = absurd (omega arith)
card_four (a ∷ b ∷ c ∷ []) l = absurd (omega arith)
card_four (a ∷ b ∷ c ∷ d ∷ []) l = λ p q r s. omega (arith, card_words (a ∷ b ∷ c ∷ d ∷ []) (p, (q, (r, (s, tt)))))
card_four (a ∷ b ∷ c ∷ d ∷ e ∷ ws) l = absurd (omega arith)

-- no mark from 128 on is in four words
pub holds_past : (ws : List ℕ) → length ws ≡ 4 → (i : ℕ) → 128 ≤ i → holds ws i ≡ false
holds_past ws l i h = ap (λ w. bits_of w (i % 32)) (get_or_past ws (i / 32) 0 (omega arith)) ∙ bits_of_none (i % 32)

-- so the marks of four words are below 128
pub holds_within : (ws : List ℕ) → length ws ≡ 4 → Within 128 (holds ws)
holds_within ws l i t = elim (cases_lt i 128) [ inl h ↦ h | inr h ↦ absurd (both_ways (holds ws i) (holds_past ws l i h) t) ]

-- four words, each made of the two words at its place by the test t on their bits
pub each_of_four : (t : Bool → Bool → Bool) (us vs ws : List ℕ) → t false false ≡ false → length us ≡ 4 → length vs ≡ 4 → length ws ≡ 4 →
    ((w : ℕ) → w < 4 → (i : ℕ) → i < 32 → bits_of (get_or ws w 0) i ≡ t (bits_of (get_or us w 0) i) (bits_of (get_or vs w 0) i)) →
    holds ws ≡ (λ i. t (holds us i) (holds vs i))
each_of_four t us vs ws z l m n e = fun_ext (λ i. elim (cases_lt (i / 32) 4) [ inl h ↦ e (i / 32) h (i % 32) (omega arith) | inr h ↦ past (i / 32) (i % 32) h ])
  where
    nothing : (xs : List ℕ) (w k : ℕ) → length xs ≡ 4 → 4 ≤ w → bits_of (get_or xs w 0) k ≡ false
    nothing xs w k q h = ap (λ x. bits_of x k) (get_or_past xs w 0 (omega arith)) ∙ bits_of_none k

    past : (w k : ℕ) → 4 ≤ w → bits_of (get_or ws w 0) k ≡ t (bits_of (get_or us w 0) k) (bits_of (get_or vs w 0) k)
    past w k h = nothing ws w k n h ∙ sym (ap₂ t (nothing us w k l h) (nothing vs w k m h) ∙ z)

-- bit i set, as the program writes it
abbrev pub bit_set : List ℕ → ℕ → List ℕ
bit_set ws i = set ws (i / 32) (bit_or (get_or ws (i / 32) 0) (1 * 2 ^ (i % 32) % 2 ^ 32))

pub holds_bit_set : (ws : List ℕ) (i : ℕ) → length ws ≡ 4 → i < 128 → holds (bit_set ws i) ≡ holds ws ∪ only i
holds_bit_set ws i l h = fun_ext (rw (one_shl (i % 32) 32 (omega arith)) (holds_insert ws i (omega arith)))

-- bit i cleared
abbrev pub bit_cleared : List ℕ → ℕ → List ℕ
bit_cleared ws i = set ws (i / 32) (bit_and (get_or ws (i / 32) 0) (4294967295 - 1 * 2 ^ (i % 32) % 4294967296))

pub holds_bit_cleared : (ws : List ℕ) (i : ℕ) → length ws ≡ 4 → i < 128 → holds (bit_cleared ws i) ≡ holds ws ∖ only i
holds_bit_cleared ws i l h = fun_ext (rw (one_shl (i % 32) 32 (omega arith)) (holds_remove ws i (omega arith)))

-- a mark that is there already, or that was not there
pub with_there : (s : Set) (i : ℕ) → s i ≡ true → s ≡ s ∪ only i
with_there s i e = fun_ext (λ j. there (s j) (eqb j i) (λ f. ap s (eqb-true j i f) ∙ e))
  where
    there : (a b : Bool) → (b ≡ true → a ≡ true) → a ≡ (a || b)
    there a b h = grind arith

pub without_there : (s : Set) (i : ℕ) → s i ≡ false → s ≡ s ∖ only i
without_there s i e = fun_ext (λ j. there (s j) (eqb j i) (λ f. ap s (eqb-true j i f) ∙ e))
  where
    there : (a b : Bool) → (b ≡ true → a ≡ false) → a ≡ (a && not b)
    there a b h = grind arith
