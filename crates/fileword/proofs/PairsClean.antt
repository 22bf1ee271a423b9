-- The words of a pair file are clean.
use Rattle.std.proofs.Common.{◌≡◌, ℕ, zero, suc, ◌-◌, ◌/◌, ◌^◌, ◌<◌, ◌≤◌, true, false, ◌⊎◌, List, length, get_or, sym, refl, ap, ◌∙◌, inl, inr, arith, Option}
use Rattle.std.specs.List.{AllByRecursion}
use Rattle.std.proofs.ByRecursion.{All-get_or}
use Rattle.std.proofs.lemmas.Bool.{cases_lt, ne_eqb, eq-eqb, cond-false}
use Rattle.fileword.specs.Layout.{kind, load, upper, lower, head_word}
use Rattle.fileword.specs.Files.{Pair, NamesMarks, RisingPairs, pair_file}
use Rattle.fileword.specs.Faults.{at, marks_said, measured, may_stand, in_pairs, spare_set, pair_fits, comes_after, end_load, takes}
use Rattle.fileword.specs.Laws.{said}
use Rattle.fileword.specs.declared.files.Form.{Form}
use Rattle.fileword.specs.declared.files.Form.TheVariants.{Pairs, Measured}
use Rattle.fileword.proofs.Words.{kind_word, load_word, kind_fields, upper_fields, lower_fields, kind_head, marks_of_head, k_of_head}
use Rattle.fileword.proofs.WordTests.{pairs_begin, stands_in_pairs_lem, pair_or_end_stands, spare_clear, pair_passes, later_passes}
use Rattle.fileword.proofs.Rising.{rising_step, few_pairs}
use Rattle.fileword.proofs.Clean.{Clean, end_stands}
use Rattle.fileword.proofs.Heads.{head_unspoilt, head_in_range, same_summary}
use Rattle.fileword.proofs.PairWords.{word_of_pair_lem, length_pair_file, pair_file_pair, pair_file_end}

module _ (n k : ℕ) (ps : List Pair) (few : n ≤ 128) (low : 1 ≤ k) (high : k ≤ 16)
    (marks : AllByRecursion (NamesMarks n) ps) (rising : RisingPairs ps) where
  abbrev file : List ℕ
  file = pair_file n k ps

  short : length ps < 2 ^ 28
  short = omega (arith, few_pairs n ps few marks rising)

  said_marks : marks_said file ≡ n
  said_marks = marks_of_head n k (omega arith) (omega arith)

  pair_there : (i : ℕ) (d : Pair) → i < length ps → at file (suc i) ≡ word_of_pair_lem (get_or ps i d)
  pair_there i d l = pair_file_pair n k ps i d l

  marks_there : (i : ℕ) (d : Pair) → i < length ps → NamesMarks n (get_or ps i d)
  marks_there i d l = All-get_or (NamesMarks n) ps i d l marks

  module _ (i : ℕ) (d : Pair) (l : i < length ps) where
    pair_kind : kind (at file (suc i)) ≡ 2
    pair_kind =
        let m = marks_there i d l in
        ap kind (pair_there i d l) ∙ kind_fields 2 (get_or ps i d).a (get_or ps i d).b (omega arith) (omega arith)

    pair_upper : upper (at file (suc i)) ≡ (get_or ps i d).a
    pair_upper =
        let m = marks_there i d l in
        ap upper (pair_there i d l) ∙ upper_fields 2 (get_or ps i d).a (get_or ps i d).b (omega arith) (omega arith)

    pair_lower : lower (at file (suc i)) ≡ (get_or ps i d).b
    pair_lower =
        let m = marks_there i d l in
        ap lower (pair_there i d l) ∙ lower_fields 2 (get_or ps i d).a (get_or ps i d).b (omega arith) (omega arith)

  end_kind : kind (at file (suc (length ps))) ≡ 15
  end_kind = ap kind (pair_file_end n k ps) ∙ kind_word 15 (length ps) short

  end_holds : load (at file (suc (length ps))) ≡ length ps
  end_holds = ap load (pair_file_end n k ps) ∙ load_word 15 (length ps) short

  -- after the head come pairs, and the end
  each : (i : ℕ) → suc i < length file →
      ((i < length ps) × (kind (at file (suc i)) ≡ 2)) ⊎ ((i ≡ length ps) × (kind (at file (suc i)) ≡ 15))
  each i l =
      elim (cases_lt i (length ps)) [
        | inl g ↦ inl (g, pair_kind i (record { a = 0; b = 0 }) g)
        | inr g ↦ (let e : i ≡ length ps = omega (arith, length_pair_file n k ps) in
            inr (e, ap (λ j. kind (at file (suc j))) e ∙ end_kind))
      ]

  either : (i : ℕ) → suc i < length file → (kind (at file (suc i)) ≡ 2) ⊎ (kind (at file (suc i)) ≡ 15)
  either i l = elim (each i l) [ inl g ↦ inl g.1 | inr g ↦ inr g.1 ]

  not_measured : measured file ≡ false
  not_measured =
      ne_eqb (kind (at file 1)) 7
      (λ e. elim (either 0 (omega (arith, length_pair_file n k ps))) [ inl g ↦ omega arith | inr g ↦ omega arith ])

  module _ (i : ℕ) (d : Pair) (l : i < length ps) (b : ℕ) where
    fits : (i ≡ 0) ⊎ (comes_after b (at file (suc i)) ≡ true) → pair_fits (marks_said file) (suc i) b (at file (suc i)) ≡ true
    fits h =
        let m = marks_there i d l in
        pair_passes (marks_said file) (suc i) (upper (at file (suc i))) (lower (at file (suc i))) (comes_after b (at file (suc i)))
        (omega (arith, pair_upper i d l, pair_lower i d l)) (omega (arith, said_marks, pair_lower i d l))
        (elim h [ inl e ↦ inl (omega arith) | inr e ↦ inr e ])

  passes : (i : ℕ) → i < length ps → (p : ℕ) → p ≡ i → pair_fits (marks_said file) (suc i) (at file p) (at file (suc i)) ≡ true
  passes zero l p e = fits 0 (record { a = 0; b = 0 }) l (at file p) (inl refl)
  passes (suc i) l p e =
      let d : Pair = record { a = 0; b = 0 } in
      let g : i < length ps = omega arith in
      let r = rising_step ps i d rising l in
      fits (suc i) d l (at file p) (inr (ap (λ q. comes_after (at file q) (at file (suc (suc i)))) e
      ∙ later_passes (upper (at file (suc i))) (lower (at file (suc i))) (upper (at file (suc (suc i)))) (lower (at file (suc (suc i))))
      (rw (pair_upper i d g, pair_lower i d g, pair_upper (suc i) d l, pair_lower (suc i) d l) r)))

  pairs : (p : ℕ) → p < length file → kind (at file p) ≡ 2 → pair_fits (marks_said file) p (at file (p - 1)) (at file p) ≡ true
  pairs zero l e = absurd (omega (arith, kind_head n k (omega arith) (omega arith)))
  pairs (suc i) l e =
      elim (each i l) [ inl g ↦ passes i g.0 (suc i - 1) (omega arith) | inr g ↦ absurd (omega (arith, g.1)) ]

  ends : (p : ℕ) → p < length file → kind (at file p) ≡ 15 → load (at file p) ≡ end_load file p
  ends zero l e = absurd (omega (arith, kind_head n k (omega arith) (omega arith)))
  ends (suc i) l e =
      elim (each i l) [
        | inl g ↦ absurd (omega (arith, g.1))
        | inr g ↦ ap (λ j. load (at file (suc j))) g.0 ∙ end_holds
            ∙ sym (cond-false (measured file) (marks_said file) (suc i - 1) not_measured ∙ omega (arith, g.0))
      ]

  spares : (p : ℕ) → p < length file → spare_set (at file p) ≡ false
  spares zero l = head_unspoilt n k (omega arith) (omega arith)
  spares (suc i) l =
      spare_clear (kind (at file (suc i))) (load (at file (suc i)) / 2 ^ 16) (upper (at file (suc i)))
      (λ e. elim (either i l) [ inl g ↦ absurd (omega arith) | inr g ↦ absurd (omega arith) ])
      (λ e. elim (either i l) [
        | inl g ↦ elim e [ inl f ↦ absurd (omega arith) | inr f ↦ absurd (omega arith) ]
        | inr g ↦ elim e [ inl f ↦ absurd (omega arith) | inr f ↦ absurd (omega arith) ]
      ])

  module _ (wanted : Option Form) (taken : takes wanted Pairs ≡ true) where
    stands : (p : ℕ) → p < length file → may_stand wanted file p ≡ true
    stands zero l = eq-eqb (kind (head_word n k)) 1 (kind_head n k (omega arith) (omega arith))
    stands (suc zero) l = pairs_begin wanted (kind (at file 1)) taken (either 0 l)
    stands (suc (suc i)) l =
        let e : suc (suc i) - 1 ≡ suc i = omega arith in
        let g : i < length ps = omega (arith, length_pair_file n k ps) in
        stands_in_pairs_lem (suc (suc i)) _ _ (measured file) _ (in_pairs (kind (at file (suc (suc i) - 1))) (kind (at file (suc (suc i)))))
        (omega arith) not_measured
        ∙ pair_or_end_stands (kind (at file (suc (suc i) - 1))) (kind (at file (suc (suc i))))
        (ap (λ p. kind (at file p)) e ∙ pair_kind i (record { a = 0; b = 0 }) g) (either (suc i) l)

    pub pair_file_clean : Clean wanted file
    pair_file_clean = record {
      stands = stands;
      spares = spares;
      range = λ l. head_in_range n k few low high;
      pairs = pairs;
      ends = ends;
      ended = end_stands file (suc (length ps)) (omega (arith, length_pair_file n k ps)) end_kind;
    }

  -- and it is as its head says
  pub pair_file_said : said file ≡ record { form = Pairs; marks = n; k = k }
  pair_file_said =
      same_summary (said file) (record { form = Pairs; marks = n; k = k })
      (cond-false (measured file) Measured Pairs not_measured) said_marks (k_of_head n k (omega arith) (omega arith))
