-- The head: one that is written passes, and what clean words begin with.
use Rattle.std.proofs.Common.{◌≡◌, ℕ, ◌/◌, ◌^◌, ◌<◌, ◌≤◌, true, false, List, length, ap, ◌∙◌, ap₂, inl, inr, arith, Option}
use Rattle.std.proofs.lemmas.Bool.{eqb-true, cases_lt}
use Rattle.fileword.specs.Layout.{kind, load, upper, head_marks, head_k, head_word}
use Rattle.fileword.specs.Faults.{at, marks_said, k_said, may_begin, spare_set, in_range}
use Rattle.fileword.specs.declared.files.Summary.{Summary}
use Rattle.fileword.specs.declared.files.Form.{Form}
use Rattle.fileword.proofs.Words.{kind_head, load_head, marks_of_head, k_of_head, head_back}
use Rattle.fileword.proofs.WordTests.{no_spare_head, spare_clear, ranges, ranges_from}
use Rattle.fileword.proofs.Clean.{Clean, end_place}

-- a summary is its three fields
pub same_summary : (f g : Summary) → f.form ≡ g.form → f.marks ≡ g.marks → f.k ≡ g.k → f ≡ g
same_summary f g a b c =
    ap₂ (λ x y. record { form = x; marks = y; k = f.k }) a b ∙ ap (λ z. record { form = g.form; marks = g.marks; k = z }) c

pub head_unspoilt : (n k : ℕ) → n < 2 ^ 8 → k < 2 ^ 8 → spare_set (head_word n k) ≡ false
head_unspoilt n k g h =
    let one = kind_head n k g h in
    spare_clear (kind (head_word n k)) (load (head_word n k) / 2 ^ 16) (upper (head_word n k)) (λ e. omega (arith, load_head n k g h))
    (λ e. elim e [ inl f ↦ absurd (omega arith) | inr f ↦ absurd (omega arith) ])

pub head_in_range : (n k : ℕ) → n ≤ 128 → 1 ≤ k → k ≤ 16 → in_range (head_word n k) ≡ true
head_in_range n k few low high =
    let e = marks_of_head n k (omega arith) (omega arith) in
    let f = k_of_head n k (omega arith) (omega arith) in
    ranges_from (head_marks (head_word n k)) (head_k (head_word n k)) (omega arith) (omega arith) (omega arith)

module _ (wanted : Option Form) (ws : List ℕ) (c : Clean wanted ws) where
  pub some_words : 0 < length ws
  some_words = let q = end_place ws c.ended in omega (arith, q.1)

  pub head_kind : kind (at ws 0) ≡ 1
  head_kind = eqb-true (kind (at ws 0)) 1 (c.stands 0 some_words)

  pub head_written : head_word (marks_said ws) (k_said ws) ≡ at ws 0
  head_written =
      let s = no_spare_head (kind (at ws 0)) (load (at ws 0) / 2 ^ 16) (upper (at ws 0)) (c.spares 0 some_words) head_kind in
      head_back (at ws 0) head_kind (omega arith)

  pub head_range : (marks_said ws ≤ 128) × (1 ≤ k_said ws) × (k_said ws ≤ 16)
  head_range = ranges (marks_said ws) (k_said ws) (c.range some_words)

  -- the head is no end, so a word follows it
  pub end_after_head : (q : ℕ) → kind (at ws q) ≡ 15 → 1 ≤ q
  end_after_head q e =
      elim (cases_lt 0 q) [
        | inl l ↦ l
        | inr l ↦ (let z : q ≡ 0 = omega arith in absurd (omega (arith, head_kind, ap (λ p. kind (at ws p)) z)))
      ]

  pub two_words : 1 < length ws
  two_words = let q = end_place ws c.ended in omega (arith, q.1, end_after_head q.0 q.2)

  pub begins : may_begin wanted (kind (at ws 1)) ≡ true
  begins = c.stands 1 two_words
