-- Clean words that are measured are a measured file.
use Rattle.std.proofs.Common.{◌≡◌, ℕ, zero, suc, ◌+◌, ◌-◌, ◌*◌, ◌/◌, ◌%◌, ◌^◌, ◌<◌, ◌≤◌, true, ◌⊎◌, List, [], ◌∷◌, ◌++◌, map, length, get_or, sym, ap, ◌∙◌, ap₂, inl, inr, arith, Option}
use Rattle.std.specs.List.{range_with_len}
use Rattle.std.proofs.lemmas.List.{ext_get_or}
use Rattle.std.proofs.ByRecursion.{All-from_get_or}
use Rattle.std.proofs.lemmas.List.FromFn.{length-map-range_with_len, get_or-map-range_with_len}
use Rattle.std.proofs.lemmas.Bool.{cases_lt, cases_eq, cond-true, eqb-true}
use Rattle.plex.specs.Distance.{Sighting}
use Rattle.fileword.specs.Layout.{kind, load, upper, end_word}
use Rattle.fileword.specs.Files.{OnDome, sighting_words, measured_file, MeasuredFile}
use Rattle.fileword.specs.Faults.{at, marks_said, k_said, measured, in_measured}
use Rattle.fileword.specs.Laws.{sighting_at}
use Rattle.fileword.specs.declared.files.Form.{Form}
use Rattle.fileword.proofs.Words.{word_back}
use Rattle.fileword.proofs.WordTests.{stands_in_measured_lem, mark_or_end, no_spare_z}
use Rattle.fileword.proofs.Points.{point_on_dome, point_written}
use Rattle.fileword.proofs.Clean.{Clean, end_place}
use Rattle.fileword.proofs.Heads.{head_written, end_after_head}
use Rattle.fileword.proofs.MeasuredWords.{length_measured_file, measured_file_mark, measured_file_end}

module _ (wanted : Option Form) (ws : List ℕ) (c : Clean wanted ws) (yes : measured ws ≡ true) where
  after : (p : ℕ) → 2 ≤ p → p < length ws →
      ((p < 2 + 4 * marks_said ws) × (kind (at ws p) ≡ 3 + (p - 2) % 4)) ⊎ ((p ≡ 2 + 4 * marks_said ws) × (kind (at ws p) ≡ 15))
  after p l m =
      mark_or_end (marks_said ws) p (kind (at ws p))
      (sym (stands_in_measured_lem p _ _ (measured ws) (in_measured (marks_said ws) p (kind (at ws p))) _ l yes) ∙ c.stands p m)

  tolerance_kind : kind (at ws 1) ≡ 7
  tolerance_kind = eqb-true (kind (at ws 1)) 7 yes

  -- the end stands after the marks, and nothing after it
  final_place : (q : ℕ) → q < length ws → kind (at ws q) ≡ 15 → q ≡ 2 + 4 * marks_said ws
  final_place q l e =
      let f = end_after_head wanted ws c q e in
      elim (cases_eq q 1) [
        | inl z ↦ absurd (omega (arith, tolerance_kind, ap (λ p. kind (at ws p)) z))
        | inr z ↦ elim (after q (omega arith) l) [ inl g ↦ absurd (omega (arith, g.1)) | inr g ↦ g.0 ]
      ]

  long : length ws ≡ 3 + 4 * marks_said ws
  long =
      let q = end_place ws c.ended in
      let e = final_place q.0 q.1 q.2 in
      elim (cases_lt (3 + 4 * marks_said ws) (length ws)) [
        | inl l ↦ elim (after (3 + 4 * marks_said ws) (omega arith) l) [
          | inl g ↦ absurd (omega (arith, g.0))
          | inr g ↦ absurd (omega (arith, g.0))
        ]
        | inr l ↦ omega (arith, q.1)
      ]

  kind_at : (i r : ℕ) → i < marks_said ws → r < 4 → kind (at ws (2 + r + 4 * i)) ≡ 3 + r
  kind_at i r l h =
      elim (after (2 + r + 4 * i) (omega arith) (omega (arith, long))) [
        | inl g ↦ omega (arith, g.1)
        | inr g ↦ absurd (omega (arith, g.0))
      ]

  final_kind : kind (at ws (2 + 4 * marks_said ws)) ≡ 15
  final_kind =
      elim (after (2 + 4 * marks_said ws) (omega arith) (omega (arith, long))) [ inl g ↦ absurd (omega (arith, g.0)) | inr g ↦ g.1 ]

  unspoilt : (p : ℕ) → p < length ws → (kind (at ws p) ≡ 4) ⊎ (kind (at ws p) ≡ 6) → upper (at ws p) ≡ 0
  unspoilt p l h = no_spare_z (kind (at ws p)) (load (at ws p) / 2 ^ 16) (upper (at ws p)) (c.spares p l) h

  mark_written : (i : ℕ) → i < marks_said ws →
      sighting_words (sighting_at ws i) ≡ at ws (2 + 4 * i) ∷ at ws (3 + 4 * i) ∷ at ws (4 + 4 * i) ∷ at ws (5 + 4 * i) ∷ []
  mark_written i l =
      ap₂ ◌++◌
      (point_written 3 (at ws (2 + 4 * i)) (at ws (3 + 4 * i)) (kind_at i 0 l (omega arith)) (kind_at i 1 l (omega arith))
      (unspoilt (3 + 4 * i) (omega (arith, long)) (inl (kind_at i 1 l (omega arith)))))
      (point_written 5 (at ws (4 + 4 * i)) (at ws (5 + 4 * i)) (kind_at i 2 l (omega arith)) (kind_at i 3 l (omega arith))
      (unspoilt (5 + 4 * i) (omega (arith, long)) (inr (kind_at i 3 l (omega arith)))))

  abbrev marks_seen : List Sighting
  marks_seen = map (sighting_at ws) (range_with_len 0 (marks_said ws))

  many : length marks_seen ≡ marks_said ws
  many = length-map-range_with_len (sighting_at ws) 0 (marks_said ws)

  there : (i : ℕ) (d : Sighting) → i < marks_said ws → get_or marks_seen i d ≡ sighting_at ws i
  there i d l = get_or-map-range_with_len (sighting_at ws) 0 (marks_said ws) i i d l (omega arith)

  end_written : end_word (marks_said ws) ≡ at ws (2 + 4 * marks_said ws)
  end_written =
      let e = c.ends (2 + 4 * marks_said ws) (omega (arith, long)) final_kind in
      let f = e ∙ cond-true (measured ws) (marks_said ws) (2 + 4 * marks_said ws - 1) yes in
      omega (arith, final_kind, word_back (at ws (2 + 4 * marks_said ws)))

  abbrev file : List ℕ
  file = measured_file (marks_said ws) (k_said ws) (load (at ws 1)) marks_seen

  file_long : length file ≡ 3 + 4 * marks_said ws
  file_long = omega (arith, many, length_measured_file (marks_said ws) (k_said ws) (load (at ws 1)) marks_seen)

  same_mark : (i r : ℕ) → i < marks_said ws → r < 4 → at file (suc (suc (4 * i + r))) ≡ at ws (suc (suc (4 * i + r)))
  same_mark i r l h =
      measured_file_mark (marks_said ws) (k_said ws) (load (at ws 1)) marks_seen i r (sighting_at ws i) (omega (arith, many)) h
      ∙ ap (λ s. get_or (sighting_words s) r 0) (there i (sighting_at ws i) l)
      ∙ ap (λ ys. get_or ys r 0) (mark_written i l)
      ∙ which r h
    where
      which : (r : ℕ) → r < 4 →
          get_or (at ws (2 + 4 * i) ∷ at ws (3 + 4 * i) ∷ at ws (4 + 4 * i) ∷ at ws (5 + 4 * i) ∷ []) r 0 ≡ at ws (suc (suc (4 * i + r)))
      which zero h = ap (at ws) (omega arith)
      which (suc zero) h = ap (at ws) (omega arith)
      which (suc (suc zero)) h = ap (at ws) (omega arith)
      which (suc (suc (suc zero))) h = ap (at ws) (omega arith)
      which (suc (suc (suc (suc r)))) h = absurd (omega arith)

  same : (p : ℕ) → p < 3 + 4 * marks_said ws → at file p ≡ at ws p
  same zero l = head_written wanted ws c
  same (suc zero) l = omega (arith, tolerance_kind, word_back (at ws 1))
  same (suc (suc j)) l =
      elim (cases_lt j (4 * marks_said ws)) [
        | inl g ↦ (let e : 4 * (j / 4) + j % 4 ≡ j = omega arith in
            rw e at (same_mark (j / 4) (j % 4) (omega arith) (omega arith)))
        | inr g ↦ (let e : j ≡ 4 * marks_said ws = omega arith in
            let f : 2 + 4 * marks_said ws ≡ suc (suc (4 * marks_said ws)) = omega arith in
            rw e (ap (λ m. at file (suc (suc (4 * m)))) (sym many)
            ∙ measured_file_end (marks_said ws) (k_said ws) (load (at ws 1)) marks_seen ∙ end_written ∙ ap (at ws) f))
      ]

  pub measured_file_read : (t : ℕ) × (ss : List Sighting) × MeasuredFile (marks_said ws) (k_said ws) t ss ws
  measured_file_read = (
    load (at ws 1),
    marks_seen,
    record {
      range = omega arith;
      marks = many;
      planned = All-from_get_or (λ s. OnDome s.planned) marks_seen (sighting_at ws 0)
          (λ i l. rw (there i (sighting_at ws 0) (omega (arith, many))) (point_on_dome (at ws (2 + 4 * i)) (at ws (3 + 4 * i))));
      seen = All-from_get_or (λ s. OnDome s.seen) marks_seen (sighting_at ws 0)
          (λ i l. rw (there i (sighting_at ws 0) (omega (arith, many))) (point_on_dome (at ws (4 + 4 * i)) (at ws (5 + 4 * i))));
      written = sym (ext_get_or 0 file ws (omega (arith, long, file_long)) (λ p l. same p (omega (arith, file_long))));
    },
  )
