-- Words without a fault are a good file, a good file has no fault, and there is one verdict.
use Rattle.std.proofs.Common.{◌≡◌, ℕ, ◌≤◌, Bool, true, false, cond, eqb, List, Ok, Err, Result, sym, refl, ap, ◌∙◌, subst, ap₂, inl, inr, Option}
use Rattle.std.proofs.lemmas.Bool.{both_ways, cases_order}
use Rattle.fileword.specs.Layout.{kind}
use Rattle.fileword.specs.Files.{Good, Written}
use Rattle.fileword.specs.Faults.{number, at, marks_said, k_said, measured, faulty, Refused, takes, Judged}
use Rattle.fileword.specs.Laws.{form_said, said, Spotless, AcceptedWhenGood}
use Rattle.fileword.specs.declared.files.Form.{Form}
use Rattle.fileword.specs.declared.files.Form.TheVariants.{Pairs, Measured}
use Rattle.fileword.specs.declared.files.Summary.{Summary}
use Rattle.fileword.specs.declared.files.Fault.{Fault}
use Rattle.fileword.specs.declared.files.Fault.TheVariants.{WrongKind, SpareBit, OutOfRange, WrongPair, WrongEnd, NoEnd}
use Rattle.fileword.specs.declared.files.FileRefusal.{FileRefusal}
use Rattle.fileword.proofs.WordTests.{takes_pairs, takes_measured}
use Rattle.fileword.proofs.Clean.{Clean, clean_from_spotless, spotless_from_clean}
use Rattle.fileword.proofs.Heads.{head_range, begins}
use Rattle.fileword.proofs.PairsRead.{pair_file_read}
use Rattle.fileword.proofs.PairsClean.{pair_file_clean, pair_file_said}
use Rattle.fileword.proofs.MeasuredRead.{measured_file_read}
use Rattle.fileword.proofs.MeasuredClean.{measured_file_clean, measured_file_said}

read_as : (wanted : Option Form) (ws : List ℕ) → Clean wanted ws → (b : Bool) → measured ws ≡ b →
    Written (cond b Measured Pairs) (marks_said ws) (k_said ws) ws × (takes wanted (cond b Measured Pairs) ≡ true)
read_as wanted ws c true e = (measured_file_read wanted ws c e, takes_measured wanted (kind (at ws 1)) (begins wanted ws c) e)
read_as wanted ws c false e = (pair_file_read wanted ws c e, takes_pairs wanted (kind (at ws 1)) (begins wanted ws c) e)

pub good_from_spotless : (wanted : Option Form) (ws : List ℕ) → Spotless wanted ws → Good ws (said ws) × (takes wanted (form_said ws) ≡ true)
good_from_spotless wanted ws s =
    let c = clean_from_spotless wanted ws s in
    let h = head_range wanted ws c in
    let r = read_as wanted ws c (measured ws) refl in
    (record { few = h.0; low = h.1; high = h.2; written = r.0 }, r.1)

abbrev Passes : Option Form → Summary → List ℕ → Type 0
Passes wanted f ws = Clean wanted ws × (f ≡ said ws)

passes_as : (wanted : Option Form) (ws : List ℕ) (form : Form) (n k : ℕ) → n ≤ 128 → 1 ≤ k → k ≤ 16 → Written form n k ws →
    takes wanted form ≡ true →
    Passes wanted (record { form = form; marks = n; k = k }) ws
passes_as wanted ws Pairs n k few low high (ps, w) t =
    subst (Passes wanted (record { form = Pairs; marks = n; k = k })) (sym w.written)
    (pair_file_clean n k ps few low high w.marks w.rising wanted t, sym (pair_file_said n k ps few low high w.marks w.rising))
passes_as wanted ws Measured n k few low high (tolerance, ss, w) t =
    subst (Passes wanted (record { form = Measured; marks = n; k = k })) (sym w.written) (
      measured_file_clean n k tolerance ss few low high w.range w.marks w.planned w.seen wanted t,
      sym (measured_file_said n k tolerance ss few low high w.range w.marks w.planned w.seen),
    )

pub spotless_from_good : (wanted : Option Form) (ws : List ℕ) (f : Summary) → Good ws f → takes wanted f.form ≡ true →
    Spotless wanted ws × (f ≡ said ws)
spotless_from_good wanted ws f g t =
    let r = passes_as wanted ws f.form f.marks f.k g.few g.low g.high g.written t in
    (spotless_from_clean wanted ws r.0, r.1)

-- the fault of a number
numbered : ℕ → Fault
numbered n =
    cond (eqb n 11) WrongKind (cond (eqb n 12) SpareBit (cond (eqb n 13) OutOfRange
    (cond (eqb n 14) WrongPair (cond (eqb n 15) WrongEnd NoEnd))))

numbered_back : (f : Fault) → numbered (number f) ≡ f
unfolding numbered
numbered_back WrongKind = refl
numbered_back SpareBit = refl
numbered_back OutOfRange = refl
numbered_back WrongPair = refl
numbered_back WrongEnd = refl
numbered_back NoEnd = refl

-- two faults with one number are one fault
pub same_fault : (f g : Fault) → number f ≡ number g → f ≡ g
same_fault f g e = sym (numbered_back f) ∙ ap numbered e ∙ numbered_back g

one_place : (wanted : Option Form) (ws : List ℕ) (r s : FileRefusal) → Refused wanted ws r → Refused wanted ws s → r.place ≡ s.place
one_place wanted ws r s g h =
    elim (cases_order r.place s.place) [
      | inl e ↦ e
      | inr l ↦ elim l [
        | inl m ↦ absurd (both_ways (faulty wanted ws r.place r.fault) (h.clean r.place m r.fault) g.this)
        | inr m ↦ absurd (both_ways (faulty wanted ws s.place s.fault) (g.clean s.place m s.fault) h.this)
      ]
    ]

one_fault : (wanted : Option Form) (ws : List ℕ) (r s : FileRefusal) → Refused wanted ws r → Refused wanted ws s → r.fault ≡ s.fault
one_fault wanted ws r s g h =
    let e = one_place wanted ws r s g h in
    elim (cases_order (number r.fault) (number s.fault)) [
      | inl f ↦ same_fault r.fault s.fault f
      | inr l ↦ elim l [
        | inl m ↦ absurd (both_ways (faulty wanted ws r.place r.fault)
            (ap (λ p. faulty wanted ws p r.fault) e ∙ h.first r.fault m) g.this)
        | inr m ↦ absurd (both_ways (faulty wanted ws s.place s.fault)
            (ap (λ p. faulty wanted ws p s.fault) (sym e) ∙ g.first s.fault m) h.this)
      ]
    ]

pub one_refusal : (wanted : Option Form) (ws : List ℕ) (r s : FileRefusal) → Refused wanted ws r → Refused wanted ws s → r ≡ s
one_refusal wanted ws r s g h =
    ap₂ (λ f p. record { fault = f; place = p }) (one_fault wanted ws r s g h) (one_place wanted ws r s g h)

-- a good file is not refused
pub good_or_refused : (wanted : Option Form) (ws : List ℕ) (f : Summary) (r : FileRefusal) → Judged wanted ws (Ok f) → Refused wanted ws r → ⊥
good_or_refused wanted ws f r g h =
    both_ways (faulty wanted ws r.place r.fault) ((spotless_from_good wanted ws f g.0 g.1).0 r.place r.fault) h.this

pub one_verdict : (wanted : Option Form) (ws : List ℕ) (u v : Result Summary FileRefusal) → Judged wanted ws u → Judged wanted ws v → u ≡ v
one_verdict wanted ws (Ok f) (Ok g) a b =
    ap Ok ((spotless_from_good wanted ws f a.0 a.1).1 ∙ sym (spotless_from_good wanted ws g b.0 b.1).1)
one_verdict wanted ws (Ok f) (Err r) a b = absurd (good_or_refused wanted ws f r a b)
one_verdict wanted ws (Err r) (Ok f) a b = absurd (good_or_refused wanted ws f r b a)
one_verdict wanted ws (Err r) (Err s) a b = ap Err (one_refusal wanted ws r s a b)

pub accepted_when_good_lem : AcceptedWhenGood
accepted_when_good_lem = record { enough = good_from_spotless; needed = spotless_from_good; once = one_verdict }
