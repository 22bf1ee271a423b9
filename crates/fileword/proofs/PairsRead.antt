-- Clean words that are not measured are a pair file.
use Rattle.std.proofs.Common.{◌≡◌, ℕ, zero, suc, ◌+◌, ◌-◌, ◌<◌, ◌≤◌, true, false, ◌⊎◌, List, map, length, get_or, sym, ap, ◌∙◌, inl, inr, arith, Option}
use Rattle.std.specs.List.{range_with_len}
use Rattle.std.proofs.lemmas.List.{ext_get_or}
use Rattle.std.proofs.ByRecursion.{All-from_get_or}
use Rattle.std.proofs.lemmas.List.FromFn.{length-map-range_with_len, get_or-map-range_with_len}
use Rattle.std.proofs.lemmas.Bool.{cases_lt, cases_eq, cond-false}
use Rattle.fileword.specs.Layout.{kind, load, upper, lower, end_word}
use Rattle.fileword.specs.Files.{Pair, NamesMarks, ComesBefore, pair_file, PairFile}
use Rattle.fileword.specs.Faults.{at, marks_said, k_said, measured, in_pairs, pair_fits, comes_after}
use Rattle.fileword.specs.declared.files.Form.{Form}
use Rattle.fileword.proofs.Words.{word_back, fields_back}
use Rattle.fileword.proofs.WordTests.{begins_pairs, stands_in_pairs_lem, pair_or_end, names, follows, later}
use Rattle.fileword.proofs.Rising.{rising_counted}
use Rattle.fileword.proofs.Clean.{Clean, end_place}
use Rattle.fileword.proofs.Heads.{head_written, end_after_head, begins}
use Rattle.fileword.proofs.PairWords.{word_of_pair_lem, length_pair_file, pair_file_pair, pair_file_end}

-- the pair of the word after place i
abbrev pub pair_at : List ℕ → ℕ → Pair
pair_at ws i = record { a = upper (at ws (suc i)); b = lower (at ws (suc i)) }

-- the first m pairs of the words
abbrev pub pairs_at : List ℕ → ℕ → List Pair
pairs_at ws m = map (pair_at ws) (range_with_len 0 m)

module _ (wanted : Option Form) (ws : List ℕ) (c : Clean wanted ws) (no : measured ws ≡ false) where
  after : (p : ℕ) → 2 ≤ p → p < length ws → (kind (at ws (p - 1)) ≡ 15 → ⊥) × ((kind (at ws p) ≡ 2) ⊎ (kind (at ws p) ≡ 15))
  after p l m =
      pair_or_end (kind (at ws (p - 1))) (kind (at ws p))
      (sym (stands_in_pairs_lem p _ _ (measured ws) _ (in_pairs (kind (at ws (p - 1))) (kind (at ws p))) l no) ∙ c.stands p m)

  each : (p : ℕ) → 1 ≤ p → p < length ws → (kind (at ws p) ≡ 2) ⊎ (kind (at ws p) ≡ 15)
  each p l m =
      elim (cases_eq p 1) [
        | inl e ↦ rw e (begins_pairs wanted (kind (at ws 1)) (begins wanted ws c) no)
        | inr e ↦ (after p (omega arith) m).1
      ]

  -- nothing stands after an end
  last : (q : ℕ) → 1 ≤ q → q < length ws → kind (at ws q) ≡ 15 → length ws ≡ suc q
  last q l m e =
      elim (cases_lt (suc q) (length ws)) [
        | inl g ↦ (let z : suc q - 1 ≡ q = omega arith in absurd ((after (suc q) (omega arith) g).0 (ap (λ p. kind (at ws p)) z ∙ e)))
        | inr g ↦ omega arith
      ]

  before : (p q : ℕ) → 1 ≤ p → p < q → q < length ws → kind (at ws p) ≡ 2
  before p q l m g =
      elim (each p l (omega arith)) [ inl e ↦ e | inr e ↦ absurd (omega (arith, last p l (omega arith) e)) ]

  -- the end is the word after m pairs
  module _ (m : ℕ) (long : length ws ≡ 2 + m) (final : kind (at ws (suc m)) ≡ 15) where
    is_pair : (i : ℕ) → i < m → kind (at ws (suc i)) ≡ 2
    is_pair i l = before (suc i) (suc m) (omega arith) (omega arith) (omega arith)

    fits : (i : ℕ) → i < m → pair_fits (marks_said ws) (suc i) (at ws (suc i - 1)) (at ws (suc i)) ≡ true
    fits i l = c.pairs (suc i) (omega arith) (is_pair i l)

    named : (i : ℕ) → i < m → NamesMarks (marks_said ws) (pair_at ws i)
    named i l =
        names (marks_said ws) (suc i) (upper (at ws (suc i))) (lower (at ws (suc i)))
        (comes_after (at ws (suc i - 1)) (at ws (suc i))) (fits i l)

    step : (i : ℕ) → 0 ≤ i → suc i < 0 + m → ComesBefore (pair_at ws i) (pair_at ws (suc i))
    step i z l =
        let e : suc (suc i) - 1 ≡ suc i = omega arith in
        let f = fits (suc i) (omega arith) in
        later (upper (at ws (suc i))) (lower (at ws (suc i))) (upper (at ws (suc (suc i)))) (lower (at ws (suc (suc i))))
        (ap (λ p. comes_after (at ws p) (at ws (suc (suc i)))) (sym e)
        ∙ follows (marks_said ws) (suc (suc i)) (upper (at ws (suc (suc i)))) (lower (at ws (suc (suc i))))
        (comes_after (at ws (suc (suc i) - 1)) (at ws (suc (suc i)))) f (omega arith))

    long_enough : length (pairs_at ws m) ≡ m
    long_enough = length-map-range_with_len (pair_at ws) 0 m

    there : (i : ℕ) (d : Pair) → i < m → get_or (pairs_at ws m) i d ≡ pair_at ws i
    there i d l = get_or-map-range_with_len (pair_at ws) 0 m i i d l (omega arith)

    end_written : end_word m ≡ at ws (suc m)
    end_written =
        let e = c.ends (suc m) (omega arith) final in
        let f : load (at ws (suc m)) ≡ m = e ∙ cond-false (measured ws) (marks_said ws) (suc m - 1) no ∙ omega arith in
        omega (arith, word_back (at ws (suc m)))

    same : (p : ℕ) → p < 2 + m → at ws p ≡ at (pair_file (marks_said ws) (k_said ws) (pairs_at ws m)) p
    same zero l = sym (head_written wanted ws c)
    same (suc i) l =
        elim (cases_lt i m) [
          | inl g ↦ sym (pair_file_pair (marks_said ws) (k_said ws) (pairs_at ws m) i (pair_at ws i) (omega (arith, long_enough))
              ∙ ap word_of_pair_lem (there i (pair_at ws i) g) ∙ fields_back 2 (at ws (suc i)) (is_pair i g))
          | inr g ↦ (let e : i ≡ m = omega arith in
              rw e (sym (ap (at (pair_file (marks_said ws) (k_said ws) (pairs_at ws m))) (ap suc (sym long_enough))
              ∙ pair_file_end (marks_said ws) (k_said ws) (pairs_at ws m) ∙ ap end_word long_enough ∙ end_written)))
        ]

    pub pairs_read : PairFile (marks_said ws) (k_said ws) (pairs_at ws m) ws
    pairs_read = record {
      marks = All-from_get_or (NamesMarks (marks_said ws)) (pairs_at ws m) (pair_at ws 0)
          (λ i l. rw (there i (pair_at ws 0) (omega (arith, long_enough))) (named i (omega (arith, long_enough))));
      rising = rising_counted (pair_at ws) 0 m step;
      written = ext_get_or 0 ws (pair_file (marks_said ws) (k_said ws) (pairs_at ws m))
          (omega (arith, long_enough, length_pair_file (marks_said ws) (k_said ws) (pairs_at ws m)))
          (λ p l. same p (omega arith));
    }

  pub pair_file_read : (ps : List Pair) × PairFile (marks_said ws) (k_said ws) ps ws
  pair_file_read =
      let e = end_place ws c.ended in
      let l = end_after_head wanted ws c e.0 e.2 in
      let z : suc (e.0 - 1) ≡ e.0 = omega arith in (
        pairs_at ws (e.0 - 1),
        pairs_read (e.0 - 1) (omega (arith, last e.0 l e.1 e.2)) (ap (λ p. kind (at ws p)) z ∙ e.2),
      )
