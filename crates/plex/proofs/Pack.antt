use Rattle.std.proofs.Common.{◌≡◌, ℕ, zero, suc, ◌+◌, ◌-◌, ◌*◌, ◌/◌, ◌%◌, ◌^◌, ◌<◌, Bool, true, false, eqb, List, [], ◌∷◌, length, sym, refl, ap, ◌∙◌, ap₂, inl, inr, pow-suc, div-one, arith}
use Rattle.std.proofs.lemmas.Bool.{cases_lt}
use Rattle.plex.specs.Sets.{Set, one_if}
use Rattle.plex.specs.Words.{bits_of, holds, word_of, words_of, Words}
use Rattle.plex.proofs.Count.{bit_le}
use Rattle.plex.proofs.Words.{bits_of_zero, bits_of_suc, holds_low, holds_high}

bit_only : (b : Bool) → eqb (one_if b) 1 ≡ b
bit_only true = refl
bit_only false = refl

pub word_of_lt : (k : ℕ) (p : Set) → word_of k p < 2 ^ k
unfolding word_of
word_of_lt zero p = omega arith
word_of_lt (suc k) p = omega (arith, word_of_lt k (λ i. p (suc i)), bit_le (p 0), pow-suc 2 k)

pub bits_of_word_of : (k : ℕ) (p : Set) (i : ℕ) → i < k → bits_of (word_of k p) i ≡ p i
unfolding word_of bits_of
bits_of_word_of zero p i h = let z : ⊥ = omega arith in absurd z
bits_of_word_of (suc k) p zero h =
    let e : (one_if (p 0) + 2 * word_of k (λ i. p (suc i))) % 2 ≡ one_if (p 0) = omega (arith, bit_le (p 0)) in
    rw (div-one, e) (bit_only (p 0))
bits_of_word_of (suc k) p (suc i) h =
    let e : (one_if (p 0) + 2 * word_of k (λ i. p (suc i))) / 2 ≡ word_of k (λ i. p (suc i)) = omega (arith, bit_le (p 0)) in
    bits_of_suc (word_of (suc k) p) i ∙ ap (λ x. bits_of x i) e ∙ bits_of_word_of k (λ i. p (suc i)) i (omega arith)

pub word_ext : (k v w : ℕ) → v < 2 ^ k → w < 2 ^ k → ((i : ℕ) → i < k → bits_of v i ≡ bits_of w i) → v ≡ w
word_ext zero v w a b h = omega arith
word_ext (suc k) v w a b h =
    let e = word_ext k (v / 2) (w / 2) (omega arith) (omega arith) (λ i l. sym (bits_of_suc v i) ∙ h (suc i) (omega arith) ∙ bits_of_suc w i) in
    omega (arith, bits_of_zero v, bits_of_zero w, ap one_if (h 0 (omega arith)))

pub words_of_words : (m : ℕ) (p : Set) → Words (words_of m p)
words_of_words zero p = tt
words_of_words (suc m) p = (word_of_lt 32 p, words_of_words m (λ i. p (32 + i)))

pub holds_words_of : (m : ℕ) (p : Set) (i : ℕ) → i < m * 32 → holds (words_of m p) i ≡ p i
holds_words_of zero p i h = let z : ⊥ = omega arith in absurd z
holds_words_of (suc m) p i h =
    elim (cases_lt i 32) [
      | inl l ↦ holds_low (word_of 32 p) (words_of m (λ j. p (32 + j))) i l ∙ bits_of_word_of 32 p i l
      | inr l ↦
          let e : 32 + (i - 32) ≡ i = omega arith in
          ap (holds (words_of (suc m) p)) (sym e) ∙ holds_high (word_of 32 p) (words_of m (λ j. p (32 + j))) (i - 32)
          ∙ holds_words_of m (λ j. p (32 + j)) (i - 32) (omega arith) ∙ ap p e
    ]

-- the words are the set: two lists of words of one length that hold the same marks are the same
pub words_ext : (us vs : List ℕ) → length us ≡ length vs → Words us → Words vs → ((i : ℕ) → holds us i ≡ holds vs i) → us ≡ vs
words_ext [] [] l a b h = refl
words_ext [] (v ∷ vs) l a b h = let z : ⊥ = omega arith in absurd z
words_ext (u ∷ us) [] l a b h = let z : ⊥ = omega arith in absurd z
words_ext (u ∷ us) (v ∷ vs) l a b h =
    ap₂ ◌∷◌ (word_ext 32 u v a.0 b.0 (λ i k. sym (holds_low u us i k) ∙ h i ∙ holds_low v vs i k))
    (words_ext us vs (omega arith) a.1 b.1 (λ i. sym (holds_high u us i) ∙ h (32 + i) ∙ holds_high v vs i))
