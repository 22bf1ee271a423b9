-- A set from which marks leave one by one as a test answers: what holds while marks are to come, one mark more, and the end.
use Rattle.std.proofs.Common.{◌≡◌, ℕ, Bool, true, false, not, ◌&&◌, eqb, refl, sym, ap, ◌∙◌, subst, arith}
use mathlib.Core.Path.{fun_ext}
use Rattle.std.proofs.Math.Bool.{and-false, and-true}
use Rattle.std.proofs.lemmas.Bool.{eqb-true, eq-eqb, true≢false}
use Rattle.plex.specs.Sets.{Set, none, only, ◌∖◌}
use Rattle.marks.specs.Members.{Filtered}

-- marks to come are still there, the test has answered for the others, and no other mark is there
abbrev pub FilteredSoFar : (ℕ → Bool → Type 0) → Set → Set → Set → Type 0
FilteredSoFar says s rest kept =
    (v : ℕ) →
    (rest v ≡ true → (s v ≡ true) × (kept v ≡ true))
    × (rest v ≡ false → s v ≡ true → says v (kept v))
    × (s v ≡ false → kept v ≡ false)

module _ (says : ℕ → Bool → Type 0) (s rest rest' kept kept' : Set) (u : ℕ) (fewer : rest' ≡ rest ∖ only u) (before : FilteredSoFar says s rest kept) where
  -- the test answers b for u, and no other mark comes or goes
  after_one : (b : Bool) → rest u ≡ true → kept' u ≡ b → ((v : ℕ) → eqb v u ≡ false → kept' v ≡ kept v) → says u b → FilteredSoFar says s rest' kept'
  after_one b t e same a v = by (eqb v u) refl
    where
      there : (x : Bool) → eqb v u ≡ x → rest' v ≡ (rest v && not x)
      there x q = ap (λ r. r v) fewer ∙ ap (λ y. rest v && not y) q

      by : (x : Bool) → eqb v u ≡ x →
          (rest' v ≡ true → (s v ≡ true) × (kept' v ≡ true)) × (rest' v ≡ false → s v ≡ true → says v (kept' v)) × (s v ≡ false → kept' v ≡ false)
      by true q =
          let w : v ≡ u = eqb-true v u q in
          let gone : rest' v ≡ false = there true q ∙ and-false (rest v) in
          let inside : s v ≡ true = ap s w ∙ ((before u).0 t).0 in (
            λ r. absurd (true≢false (sym r ∙ gone)),
            λ r i. subst (λ y. says y (kept' y)) (sym w) (subst (says u) (sym e) a),
            λ o. absurd (true≢false (sym inside ∙ o)),
          )
      by false q =
          let stays : rest' v ≡ rest v = there false q ∙ and-true (rest v) in
          let k = same v q in (
            λ r. (let old = (before v).0 (sym stays ∙ r) in (old.0, k ∙ old.1)),
            λ r i. subst (says v) (sym k) ((before v).1 (sym stays ∙ r) i),
            λ o. k ∙ (before v).2 o,
          )

  pub kept_one : rest u ≡ true → kept' ≡ kept → says u true → FilteredSoFar says s rest' kept'
  kept_one t e a = after_one true t (ap (λ k. k u) e ∙ ((before u).0 t).1) (λ v _. ap (λ k. k v) e) a

  pub dropped_one : rest u ≡ true → kept' ≡ kept ∖ only u → says u false → FilteredSoFar says s rest' kept'
  dropped_one t e a =
      after_one false t (ap (λ k. k u) e ∙ ap (λ y. kept u && not y) (eq-eqb u u refl) ∙ and-false (kept u)) (λ v q. ap (λ k. k v) e ∙ ap (λ y. kept v && not y) q ∙ and-true (kept v)) a

pub all_filtered : (says : ℕ → Bool → Type 0) (s rest kept : Set) → rest ≡ none → FilteredSoFar says s rest kept → Filtered says s kept
all_filtered says s rest kept e f v = (λ i. (f v).1 (ap (λ r. r v) e) i, (f v).2)

-- where the test's answers are computed, the marks that it keeps are those of both sets
pub kept_by : (s t : Set) (test : ℕ → Bool) → Filtered (λ v answer. answer ≡ test v) s t → t ≡ (λ v. s v && test v)
kept_by s t test f = fun_ext (λ v. at (s v) (t v) (test v) (f v))
  where
    at : (x y z : Bool) → (x ≡ true → y ≡ z) × (x ≡ false → y ≡ false) → y ≡ (x && z)
    at x y z h = grind arith
