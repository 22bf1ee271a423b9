-- A pass over the chosen marks: the candidates that the marks passed so far bear.
use Rattle.std.proofs.Common.{◌≡◌, ℕ, ◌<◌, ◌≤◌, true, not, ◌||◌, sym, ap, ◌∙◌, inl, inr, arith}
use Rattle.std.proofs.lemmas.Bool.{cases_Bool, both_ways, and_parts, and_from}
use Rattle.plex.specs.Sets.{Set, Agreement, one_if, none, only, ◌∩◌, ◌∪◌, ◌∖◌, ◌⊆◌, Within}
use Rattle.plex.proofs.Count.{card_mono}
use Rattle.ceiling.specs.Formulas.{misses}
use Rattle.rule.proofs.Passing.{Passed, passed_nothing, passed_more, passed_all}
use Rattle.branch.specs.Sifting.{Sifted, Borne}
use Rattle.branch.proofs.Adding.{missed_with, one_more_at_most}

pub record Bearing (k : ℕ) (a : Agreement) (s c rest kept : Set) : Type 0 where
  pub part : kept ⊆ c
  pub borne : Passed (λ u. (v : ℕ) → kept v ≡ true → misses 128 a (s ∪ only v) u ≤ k) s rest
  pub all : (v : ℕ) → c v ≡ true → Borne k a s v → kept v ≡ true

module _ (k : ℕ) (a : Agreement) (s c : Set) where
  pub bearing_none : (rest : Set) → rest ≡ s → Bearing k a s c rest c
  bearing_none rest e = record { part = λ i t. t; borne = passed_nothing (λ u. (v : ℕ) → c v ≡ true → misses 128 a (s ∪ only v) u ≤ k) s rest e; all = λ v t _. t }

  pub bearing_all : (rest kept : Set) → rest ≡ none → Bearing k a s c rest kept → Sifted (Borne k a s) c kept
  bearing_all rest kept e h = record {
    part = h.part;
    passes = λ v t u r. passed_all (λ u. (v : ℕ) → kept v ≡ true → misses 128 a (s ∪ only v) u ≤ k) s rest e h.borne u r v t;
    all = h.all;
  }

  -- a chosen mark misses too many already: no mark can join
  pub bears_none : (u : ℕ) (d : Set) → s u ≡ true → k < misses 128 a s u → d ≡ none → Sifted (Borne k a s) c d
  bears_none u d t l e = record {
    part = λ i x. absurd (both_ways (d i) (ap (λ z. z i) e) x);
    passes = λ v x. absurd (both_ways (d v) (ap (λ z. z v) e) x);
    all = λ v _ b. absurd (omega (arith, b u t, card_mono 128 (s ∖ a u) ((s ∪ only v) ∖ a u) (λ i. grind arith)));
  }

  module _ (within : Within 128 c) (rest rest' kept : Set) (u : ℕ) (t : s u ≡ true) (e : rest' ≡ rest ∖ only u) (h : Bearing k a s c rest kept) where
    -- u may miss one mark more
    pub bearing_spare : misses 128 a s u < k → Bearing k a s c rest' kept
    bearing_spare l = record {
      part = h.part;
      borne = passed_more (λ x. (v : ℕ) → kept v ≡ true → misses 128 a (s ∪ only v) x ≤ k) s rest rest' u e
          (λ v y. omega (arith, one_more_at_most a s u v (within v (h.part v y)))) h.borne;
      all = h.all;
    }

    -- u may miss none
    pub bearing_full : (kept' : Set) → misses 128 a s u ≡ k → kept' ≡ kept ∩ (a u ∪ s) → Bearing k a s c rest' kept'
    bearing_full kept' m f = record {
      part = λ v y. h.part v (of v y).0;
      borne = passed_more (λ x. (v : ℕ) → kept' v ≡ true → misses 128 a (s ∪ only v) x ≤ k) s rest rest' u e
          (λ v y. omega (arith, missed_with a s u v (within v (h.part v (of v y).0)), ap (λ b. one_if (not b)) (of v y).1))
          (λ x r g v y. h.borne x r g v (of v y).0);
      all = λ v y b. ap (λ z. z v) f ∙ and_from (kept v) _ (h.all v y b) (near v y b);
    }
      where
        of : (v : ℕ) → kept' v ≡ true → (kept v ≡ true) × ((a u v || s v) ≡ true)
        of v y = and_parts (kept v) _ (sym (ap (λ z. z v) f) ∙ y)

        near : (v : ℕ) → c v ≡ true → Borne k a s v → (a u v || s v) ≡ true
        near v y b =
            elim (cases_Bool (a u v || s v)) [
              | inl z ↦ z
              | inr z ↦ absurd (omega (arith, b u t, missed_with a s u v (within v y), ap (λ x. one_if (not x)) z))
            ]
