-- The rules keep the law.
use Rattle.std.proofs.Common.{◌≡◌, ℕ, ◌≤◌, true, inl, inr, arith}
use Rattle.std.proofs.lemmas.Bool.{cases_lt, cases_Bool}
use Rattle.plex.specs.Sets.{Set, Agreement, card, ◌∩◌, ◌∪◌, ◌∖◌, Kplex, Within}
use Rattle.plex.proofs.Count.{card_mono, card_or, card_split}
use Rattle.ceiling.specs.Rules.{Number, Between, Lawful, smaller}
use Rattle.ceiling.specs.Formulas.{marks_of_both, degree_number, pair_number, applies, by_degree, by_pair}
use Rattle.ceiling.specs.Laws.{RulesAreLawful}
use Rattle.ceiling.proofs.Formulas.{applies_decides, unasked, degree_is, pair_is}

-- C read without S says the same of what lies between
pub between_apart : (s c p : Set) → Between s c p → Between s (c ∖ s) p
between_apart s c p b = (b.0, λ i t. let z = b.1 i t in grind arith)

pub between_size : (n : ℕ) (s c p : Set) → Between s c p → card n p ≤ marks_of_both n s c
between_size n s c p b = omega (arith, card_or n s c, card_mono n p (s ∪ c) b.1)

-- a mark u of a k-plex p inside s and c: p has at most k marks that do not agree with u
pub degree_bounds : (n k : ℕ) (a : Agreement) (s c p : Set) (u : ℕ) → s u ≡ true → Kplex n k a p → Between s c p → card n p ≤ degree_number n k a s c u
degree_bounds n k a s c p u t q b =
    omega (arith, (q u (b.0 u t)).1, card_mono n (p ∩ a u) ((s ∪ c) ∩ a u) (λ i. let z = b.1 i in grind arith))

-- what p has besides s: those that u misses, those that v misses, and those that agree with both
pub pair_bounds : (n k : ℕ) (a : Agreement) (s c p : Set) (u v : ℕ) → s u ≡ true → s v ≡ true → Kplex n k a p → Between s c p
    → card n p ≤ pair_number n k a s c u v
pair_bounds n k a s c p u v tu tv q b =
    omega (
      arith,
      (q u (b.0 u tu)).1,
      (q v (b.0 v tv)).1,
      card_split n p (a u),
      card_split n p (a v),
      card_split n p s,
      card_split n (p ∖ s) (a u),
      card_split n ((p ∖ s) ∩ a u) (a v),
      card_split n (p ∖ a u) s,
      card_split n (p ∖ a v) s,
      card_mono n (p ∩ s) s (λ i. grind arith),
      card_mono n (s ∖ a u) ((p ∖ a u) ∩ s) (λ i. let z = b.0 i in grind arith),
      card_mono n (s ∖ a v) ((p ∖ a v) ∩ s) (λ i. let z = b.0 i in grind arith),
      card_mono n (p ∖ s ∖ a u) (p ∖ a u ∖ s) (λ i. grind arith),
      card_mono n ((p ∖ s) ∩ a u ∖ a v) (p ∖ a v ∖ s) (λ i. grind arith),
      card_mono n ((p ∖ s) ∩ a u ∩ a v) (c ∩ a u ∩ a v) (λ i. let z = b.1 i in grind arith),
    )

module _ (n k : ℕ) (a : Agreement) (s c p : Set) (w : Within n s) (q : Kplex n k a p) (b : Between s c p) where
  abbrev under : ℕ → Type 0
  under m = card n p ≤ m

  plain : (m : ℕ) → m ≡ marks_of_both n s c → under m
  plain m e = omega (arith, between_size n s c p b)

  pub degree_above : under (by_degree n k a s c)
  degree_above =
      let r = degree_is n k a s c w in
      elim (cases_Bool (applies n k a s)) [
        | inr e ↦ plain _ (r.otherwise (unasked n k a s c w e))
        | inl e ↦
            (elim (cases_lt 0 (card n s)) [
              | inr few ↦ plain _ (r.empty (omega arith))
              | inl some ↦
                  (let m = (r.smallest ((applies_decides n k a s w).0 e) some).reached in
                  omega (arith, m.2, degree_bounds n k a s c p m.0 m.1 q b))
            ])
      ]

  pub pair_above : under (by_pair n k a s c)
  pair_above =
      let r = pair_is n k a s c w in
      elim (cases_Bool (applies n k a s)) [
        | inr e ↦ plain _ (r.otherwise (unasked n k a s c w e))
        | inl e ↦
            (elim (cases_lt 1 (card n s)) [
              | inr few ↦ plain _ (r.fewer (omega arith))
              | inl two ↦
                  (let m = (r.smallest ((applies_decides n k a s w).0 e) two).reached in
                  omega (arith, m.5, pair_bounds n k a s c p m.0 m.1 m.2 m.3 q b))
            ])
      ]

pub degree_lawful : Lawful (by_degree 128)
degree_lawful = record {
  above = λ k a s c _ _ _ h p q b. degree_above 128 k a s (c ∖ s) p (λ i t. (h i t).0) q (between_apart s c p b);
}

pub pair_lawful : Lawful (by_pair 128)
pair_lawful = record {
  above = λ k a s c _ _ _ h p q b. pair_above 128 k a s (c ∖ s) p (λ i t. (h i t).0) q (between_apart s c p b);
}

pub smaller_lawful : (first second : Number) → Lawful first → Lawful second → Lawful (smaller first second)
smaller_lawful first second f g = record {
  above = λ k a s c two_way no_self w h p q b.
      omega (arith, f.above k a s c two_way no_self w h p q b, g.above k a s c two_way no_self w h p q b);
}

pub rules_are_lawful_lem : RulesAreLawful
rules_are_lawful_lem = record { degree = degree_lawful; pair = pair_lawful; smaller_of_two = smaller_lawful }
