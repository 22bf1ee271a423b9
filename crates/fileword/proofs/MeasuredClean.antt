-- The words of a measured file are clean.
use Rattle.std.proofs.Common.{◌≡◌, ℕ, zero, suc, ◌+◌, ◌-◌, ◌*◌, ◌/◌, ◌%◌, ◌^◌, ◌<◌, ◌≤◌, true, false, ◌⊎◌, List, length, get_or, sym, refl, ap, ◌∙◌, inl, inr, arith, Option}
use Rattle.std.specs.List.{AllByRecursion}
use Rattle.std.proofs.ByRecursion.{All-get_or}
use Rattle.std.proofs.lemmas.Bool.{cases_lt, eq-eqb, cond-true}
use Rattle.plex.specs.Distance.{Sighting}
use Rattle.fileword.specs.Layout.{kind, load, upper, head_word, end_word, point_of}
use Rattle.fileword.specs.Files.{OnDome, sighting_words, measured_file}
use Rattle.fileword.specs.Faults.{at, marks_said, measured, may_stand, in_measured, spare_set, pair_fits, end_load, takes}
use Rattle.fileword.specs.Laws.{said}
use Rattle.fileword.specs.declared.files.Form.{Form}
use Rattle.fileword.specs.declared.files.Form.TheVariants.{Pairs, Measured}
use Rattle.fileword.proofs.Words.{kind_word, load_word, kind_head, marks_of_head, k_of_head}
use Rattle.fileword.proofs.WordTests.{measured_begins, stands_in_measured_lem, mark_stands, end_stands_measured, spare_clear}
use Rattle.fileword.proofs.Points.{sighting_kind, sighting_spare}
use Rattle.fileword.proofs.Clean.{Clean, end_stands}
use Rattle.fileword.proofs.Heads.{head_unspoilt, head_in_range, same_summary}
use Rattle.fileword.proofs.MeasuredWords.{length_measured_file, measured_file_mark, measured_file_end}

module _ (n k t : ℕ) (ss : List Sighting) (few : n ≤ 128) (low : 1 ≤ k) (high : k ≤ 16) (range : t < 2 ^ 28) (marks : length ss ≡ n)
    (planned : AllByRecursion (λ s. OnDome s.planned) ss) (seen : AllByRecursion (λ s. OnDome s.seen) ss) where
  abbrev file : List ℕ
  file = measured_file n k t ss

  said_marks : marks_said file ≡ n
  said_marks = marks_of_head n k (omega arith) (omega arith)

  -- the default of the list of sightings
  nowhere : Sighting
  nowhere = record { planned = point_of 0 0; seen = point_of 0 0 }

  mark_there : (i r : ℕ) → i < n → r < 4 → at file (suc (suc (4 * i + r))) ≡ get_or (sighting_words (get_or ss i nowhere)) r 0
  mark_there i r l h = measured_file_mark n k t ss i r nowhere (omega arith) h

  dome_planned : (i : ℕ) → i < n → OnDome (get_or ss i nowhere).planned
  dome_planned i l = All-get_or (λ s. OnDome s.planned) ss i nowhere (omega arith) planned

  dome_seen : (i : ℕ) → i < n → OnDome (get_or ss i nowhere).seen
  dome_seen i l = All-get_or (λ s. OnDome s.seen) ss i nowhere (omega arith) seen

  mark_kind : (i r : ℕ) → i < n → r < 4 → kind (at file (suc (suc (4 * i + r)))) ≡ 3 + r
  mark_kind i r l h = ap kind (mark_there i r l h) ∙ sighting_kind (get_or ss i nowhere) r (dome_planned i l) (dome_seen i l) h

  mark_spare : (i r : ℕ) → i < n → r < 4 → (r ≡ 1) ⊎ (r ≡ 3) → upper (at file (suc (suc (4 * i + r)))) ≡ 0
  mark_spare i r l h e = ap upper (mark_there i r l h) ∙ sighting_spare (get_or ss i nowhere) r (dome_planned i l) (dome_seen i l) e

  tolerance_kind : kind (at file 1) ≡ 7
  tolerance_kind = kind_word 7 t range

  is_measured_lem : measured file ≡ true
  is_measured_lem = eq-eqb (kind (at file 1)) 7 tolerance_kind

  end_there : (j : ℕ) → j ≡ 4 * n → at file (suc (suc j)) ≡ end_word n
  end_there j e =
      let f : j ≡ 4 * length ss = omega arith in
      ap (λ i. at file (suc (suc i))) f ∙ measured_file_end n k t ss

  end_kind : (j : ℕ) → j ≡ 4 * n → kind (at file (suc (suc j))) ≡ 15
  end_kind j e = ap kind (end_there j e) ∙ kind_word 15 n (omega arith)

  -- after the tolerance come the marks' words, and the end
  each : (j : ℕ) → suc (suc j) < length file →
      ((j < 4 * n) × (kind (at file (suc (suc j))) ≡ 3 + j % 4)) ⊎ ((j ≡ 4 * n) × (kind (at file (suc (suc j))) ≡ 15))
  each j l =
      elim (cases_lt j (4 * n)) [
        | inl g ↦ (let e : 4 * (j / 4) + j % 4 ≡ j = omega arith in
            inl (g, rw e at (mark_kind (j / 4) (j % 4) (omega arith) (omega arith))))
        | inr g ↦ (let e : j ≡ 4 * n = omega (arith, length_measured_file n k t ss) in
            inr (e, end_kind j e))
      ]

  spares : (p : ℕ) → p < length file → spare_set (at file p) ≡ false
  spares zero l = head_unspoilt n k (omega arith) (omega arith)
  spares (suc zero) l =
      spare_clear (kind (at file 1)) (load (at file 1) / 2 ^ 16) (upper (at file 1)) (λ e. absurd (omega (arith, tolerance_kind)))
      (λ e. elim e [ inl f ↦ absurd (omega (arith, tolerance_kind)) | inr f ↦ absurd (omega (arith, tolerance_kind)) ])
  spares (suc (suc j)) l =
      spare_clear (kind (at file (suc (suc j)))) (load (at file (suc (suc j))) / 2 ^ 16) (upper (at file (suc (suc j))))
      (λ e. elim (each j l) [ inl g ↦ absurd (omega (arith, g.1)) | inr g ↦ absurd (omega (arith, g.1)) ])
      (λ e. elim (each j l) [
        | inl g ↦ (let f : 4 * (j / 4) + j % 4 ≡ j = omega arith in
            rw f at (mark_spare (j / 4) (j % 4) (omega (arith, g.0)) (omega arith)
            (elim e [ inl h ↦ inl (omega (arith, g.1)) | inr h ↦ inr (omega (arith, g.1)) ])))
        | inr g ↦ elim e [ inl f ↦ absurd (omega (arith, g.1)) | inr f ↦ absurd (omega (arith, g.1)) ]
      ])

  -- no word is a pair
  pairs : (p : ℕ) → p < length file → kind (at file p) ≡ 2 → pair_fits (marks_said file) p (at file (p - 1)) (at file p) ≡ true
  pairs zero l e = absurd (omega (arith, kind_head n k (omega arith) (omega arith)))
  pairs (suc zero) l e = absurd (omega (arith, tolerance_kind))
  pairs (suc (suc j)) l e =
      absurd (elim (each j l) [ inl g ↦ omega (arith, g.1) | inr g ↦ omega (arith, g.1) ])

  ends : (p : ℕ) → p < length file → kind (at file p) ≡ 15 → load (at file p) ≡ end_load file p
  ends zero l e = absurd (omega (arith, kind_head n k (omega arith) (omega arith)))
  ends (suc zero) l e = absurd (omega (arith, tolerance_kind))
  ends (suc (suc j)) l e =
      elim (each j l) [
        | inl g ↦ absurd (omega (arith, g.1))
        | inr g ↦ ap load (end_there j g.0) ∙ load_word 15 n (omega arith)
            ∙ sym (cond-true (measured file) (marks_said file) (suc (suc j) - 1) is_measured_lem ∙ said_marks)
      ]

  rest : (j : ℕ) → suc (suc j) < length file → in_measured (marks_said file) (suc (suc j)) (kind (at file (suc (suc j)))) ≡ true
  rest j l =
      elim (each j l) [
        | inl g ↦ mark_stands (marks_said file) (suc (suc j)) (kind (at file (suc (suc j))))
            (omega (arith, said_marks, g.0)) (omega (arith, g.1))
        | inr g ↦ end_stands_measured (marks_said file) (suc (suc j)) (kind (at file (suc (suc j))))
            (omega (arith, said_marks, g.0)) g.1
      ]

  module _ (wanted : Option Form) (taken : takes wanted Measured ≡ true) where
    stands : (p : ℕ) → p < length file → may_stand wanted file p ≡ true
    stands zero l = eq-eqb (kind (head_word n k)) 1 (kind_head n k (omega arith) (omega arith))
    stands (suc zero) l = measured_begins wanted (kind (at file 1)) taken tolerance_kind
    stands (suc (suc j)) l =
        stands_in_measured_lem (suc (suc j)) _ _ (measured file) (in_measured (marks_said file) (suc (suc j)) (kind (at file (suc (suc j))))) _
        (omega arith) is_measured_lem ∙ rest j l

    pub measured_file_clean : Clean wanted file
    measured_file_clean = record {
      stands = stands;
      spares = spares;
      range = λ l. head_in_range n k few low high;
      pairs = pairs;
      ends = ends;
      ended = end_stands file (suc (suc (4 * n))) (omega (arith, length_measured_file n k t ss)) (end_kind (4 * n) refl);
    }

  -- and it is as its head says
  pub measured_file_said : said file ≡ record { form = Measured; marks = n; k = k }
  measured_file_said =
      same_summary (said file) (record { form = Measured; marks = n; k = k })
      (cond-true (measured file) Measured Pairs is_measured_lem) said_marks (k_of_head n k (omega arith) (omega arith))
