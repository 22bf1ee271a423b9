-- What a file's sheet reads from it.
use Rattle.std.proofs.Common.{◌≡◌, ℕ, ◌<◌, ◌≤◌, true, List, get_or, ap, ◌∙◌, ap₂, arith, Some, Option}
use Rattle.std.proofs.lemmas.Bool.{false≢true}
use Rattle.plex.specs.Meaning.{agree_by}
use Rattle.plex.specs.Distance.{Sighting, sighted_alike}
use Rattle.fileword.specs.Files.{Good, MeasuredFile, Written}
use Rattle.fileword.specs.Faults.{takes}
use Rattle.fileword.specs.Laws.{sighting_at}
use Rattle.fileword.specs.declared.files.Form.{Form}
use Rattle.fileword.specs.declared.files.Form.TheVariants.{Pairs, Measured}
use Rattle.fileword.specs.declared.files.Summary.{Summary}
use Rattle.fileword.proofs.Verdict.{spotless_from_good}
use Rattle.fileword.proofs.ReadBack.{tolerance_back, sightings_back}
use Rattle.sheet.proofs.Entering.{agree_same}
use Rattle.pairing.specs.Naming.{names}
use Rattle.file.specs.Sheets.{sheet_marks, alike, ReadsPairs, ReadsMeasured}
use Rattle.file.specs.declared.measured.MeasuredSheet.{MeasuredSheet}
use Rattle.file.specs.declared.pairs.PairSheet.{PairSheet}
use Rattle.file.proofs.Naming.{pairs_agree}

-- the marks' sightings, as they were written
measured_alike : (n k t : ℕ) (ss : List Sighting) (ws : List ℕ) → MeasuredFile n k t ss ws → (i j : ℕ) → i < n → j < n → (d : Sighting) →
    alike ws i j ≡ sighted_alike t (get_or ss i d) (get_or ss j d)
unfolding alike
measured_alike n k t ss ws f i j hi hj d =
    ap (λ x. sighted_alike x (sighting_at ws i) (sighting_at ws j)) (tolerance_back n k t ss ws f)
    ∙ ap₂ (sighted_alike t) (sightings_back n k t ss ws f i hi d) (sightings_back n k t ss ws f j hj d)

module _ (ws : List ℕ) where
  -- a good file's sheet has the file's marks
  marks_read : (wanted : Option Form) (f : Summary) → Good ws f → takes wanted f.form ≡ true → sheet_marks ws ≡ f.marks
  marks_read wanted f g t =
      let e = ap (λ (s : Summary). s.marks) (spotless_from_good wanted ws f g t).1 in omega (arith, g.few)

  read_pairs : (form : Form) (n k : ℕ) → takes (Some Pairs) form ≡ true → n ≤ 128 → 1 ≤ k → k ≤ 16 → Written form n k ws → sheet_marks ws ≡ n →
      (s : PairSheet) → s.words.now ≡ ws → ReadsPairs ws s
  read_pairs Pairs n k t few low high w m s e = record {
    words = e;
    n = n;
    k = k;
    pairs = w.0;
    few = few;
    low = low;
    high = high;
    file = w.1;
    marks = m;
    agreement = λ i j. ap (λ x. agree_by x (names ws) i j) m ∙ pairs_agree n k w.0 ws (omega arith) (omega arith) w.1 i j;
  }
  read_pairs Measured n k t few low high w m s e = absurd (false≢true t)

  pub pairs_read : (f : Summary) → Good ws f → takes (Some Pairs) f.form ≡ true → (s : PairSheet) → s.words.now ≡ ws → ReadsPairs ws s
  pairs_read f g t = read_pairs f.form f.marks f.k t g.few g.low g.high g.written (marks_read (Some Pairs) f g t)

  read_measured : (form : Form) (n k : ℕ) → takes (Some Measured) form ≡ true → n ≤ 128 → 1 ≤ k → k ≤ 16 → Written form n k ws → sheet_marks ws ≡ n →
      (s : MeasuredSheet) → s.words.now ≡ ws → ReadsMeasured ws s
  read_measured Measured n k t few low high w m s e = record {
    words = e;
    n = n;
    k = k;
    tolerance = w.0;
    sightings = w.1;
    few = few;
    low = low;
    high = high;
    file = w.2;
    marks = m;
    agreement = λ i j d.
        ap (λ x. agree_by x (alike ws) i j) m
        ∙ agree_same n (alike ws) (λ a b. sighted_alike w.0 (get_or w.1 a d) (get_or w.1 b d)) i j (λ a b ha hb. measured_alike n k w.0 w.1 ws w.2 a b ha hb d);
  }
  read_measured Pairs n k t few low high w m s e = absurd (false≢true t)

  pub measured_read : (f : Summary) → Good ws f → takes (Some Measured) f.form ≡ true → (s : MeasuredSheet) → s.words.now ≡ ws → ReadsMeasured ws s
  measured_read f g t = read_measured f.form f.marks f.k t g.few g.low g.high g.written (marks_read (Some Measured) f g t)
