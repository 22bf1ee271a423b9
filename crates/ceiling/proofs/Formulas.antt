-- The formulas are the rules as they are said.
use Rattle.std.proofs.Common.{◌≡◌, ℕ, Bool, true, false, cond, leb, Decides, sym, refl, ◌∙◌, subst, inl, inr, arith}
use Rattle.std.proofs.lemmas.Bool.{cases_lt, cases_Bool, cond-true, cond-false, and_parts, and_from, leb-true, le-leb, true≢false}
use Rattle.plex.specs.Sets.{Set, Agreement, card, Within}
use Rattle.plex.proofs.Decide.{kplex_decides}
use Rattle.ceiling.specs.Formulas.{marks_of_both, degree_number, pair_number, smallest, smallest_of_two, in_range, applies, by_degree, by_pair}
use Rattle.ceiling.specs.Laws.{Smallest, SmallestOfTwo, AskedWell, IsDegreeNumber, IsPairNumber, FormulasStand}
use Rattle.ceiling.proofs.Smallest.{smallest_is, smallest_none, smallest_unique, two_is, two_none, two_unique}

pub applies_decides : (n k : ℕ) (a : Agreement) (s : Set) → Within n s → Decides (applies n k a s) (AskedWell n k a s)
applies_decides n k a s w = (
  (λ e. let x = and_parts (in_range k) _ e in
      let y = and_parts (leb 1 k) _ x.0 in
      record { low = leb-true 1 k y.0; high = leb-true k 16 y.1; plex = (kplex_decides n k a s w).0 x.1 }),
  (λ q. and_from (in_range k) _ (and_from (leb 1 k) _ (le-leb 1 k q.low) (le-leb k 16 q.high)) ((kplex_decides n k a s w).1 q.plex)),
)

-- where the rules do not apply
applies_not : (n k : ℕ) (a : Agreement) (s : Set) → Within n s → (AskedWell n k a s → ⊥) → applies n k a s ≡ false
applies_not n k a s w h =
    elim (cases_Bool (applies n k a s)) [ inl e ↦ absurd (h ((applies_decides n k a s w).0 e)) | inr e ↦ e ]

cond_same : (b : Bool) (x y : ℕ) → x ≡ y → cond b x y ≡ y
cond_same true x y e = e
cond_same false x y e = refl

module _ (n k : ℕ) (a : Agreement) (s c : Set) (w : Within n s) where
  abbrev other : ℕ
  other = marks_of_both n s c

  degree_applied : AskedWell n k a s → by_degree n k a s c ≡ smallest n s (degree_number n k a s c) other
  unfolding by_degree
  degree_applied q = cond-true (applies n k a s) _ other ((applies_decides n k a s w).1 q)

  pub degree_is : IsDegreeNumber n k a s c (by_degree n k a s c)
  unfolding by_degree
  degree_is = record {
    smallest = λ q some. subst (λ m. Smallest s (degree_number n k a s c) m) (sym (degree_applied q)) (smallest_is n s (degree_number n k a s c) other w some);
    empty = λ e. cond_same (applies n k a s) _ other (smallest_none n s (degree_number n k a s c) other e);
    otherwise = λ h. cond-false (applies n k a s) _ other (applies_not n k a s w h);
  }

  pub unasked : applies n k a s ≡ false → AskedWell n k a s → ⊥
  unasked e q = true≢false (sym ((applies_decides n k a s w).1 q) ∙ e)

  -- either the rules apply, to no mark or to some, or they do not
  pub degree_only : (m : ℕ) → IsDegreeNumber n k a s c m → m ≡ by_degree n k a s c
  degree_only m r =
      elim (cases_Bool (applies n k a s)) [
        | inl e ↦
            (let q = (applies_decides n k a s w).0 e in
            elim (cases_lt 0 (card n s)) [
              | inl some ↦ smallest_unique s (degree_number n k a s c) m (by_degree n k a s c) (r.smallest q some) (degree_is.smallest q some)
              | inr few ↦ r.empty (omega arith) ∙ sym (degree_is.empty (omega arith))
            ])
        | inr e ↦ (let h = unasked e in r.otherwise h ∙ sym (degree_is.otherwise h))
      ]

  pair_applied : AskedWell n k a s → by_pair n k a s c ≡ smallest_of_two n s (pair_number n k a s c) other
  unfolding by_pair
  pair_applied q = cond-true (applies n k a s) _ other ((applies_decides n k a s w).1 q)

  pub pair_is : IsPairNumber n k a s c (by_pair n k a s c)
  unfolding by_pair
  pair_is = record {
    smallest = λ q two. subst (λ m. SmallestOfTwo s (pair_number n k a s c) m) (sym (pair_applied q)) (two_is n s (pair_number n k a s c) other w two);
    fewer = λ l. cond_same (applies n k a s) _ other (two_none n s (pair_number n k a s c) other w l);
    otherwise = λ h. cond-false (applies n k a s) _ other (applies_not n k a s w h);
  }

  pub pair_only : (m : ℕ) → IsPairNumber n k a s c m → m ≡ by_pair n k a s c
  pair_only m r =
      elim (cases_Bool (applies n k a s)) [
        | inl e ↦
            (let q = (applies_decides n k a s w).0 e in
            elim (cases_lt 1 (card n s)) [
              | inl two ↦ two_unique s (pair_number n k a s c) m (by_pair n k a s c) (r.smallest q two) (pair_is.smallest q two)
              | inr few ↦ r.fewer (omega arith) ∙ sym (pair_is.fewer (omega arith))
            ])
        | inr e ↦ (let h = unasked e in r.otherwise h ∙ sym (pair_is.otherwise h))
      ]

pub formulas_stand_lem : FormulasStand
formulas_stand_lem = record {
  degree = λ n k a s c w. degree_is n k a s c w;
  one_degree = λ n k a s c m w. degree_only n k a s c w m;
  pair = λ n k a s c w. pair_is n k a s c w;
  one_pair = λ n k a s c m w. pair_only n k a s c w m;
}
