-- A pass over pairs of marks: the lowest mark that is left, with each one after it.
use Rattle.std.proofs.Common.{◌≡◌, ℕ, ◌+◌, ◌-◌, ◌<◌, ◌≤◌, Bool, true, false, not, ◌&&◌, ◌||◌, eqb, ◌⊎◌, sym, refl, ap, ◌∙◌, subst, inl, inr, arith}
use Rattle.std.proofs.lemmas.Bool.Decides.{nat_tests}
use Rattle.std.proofs.lemmas.Bool.{cases_eq, cases_Bool, both_ways, and_parts}
use Rattle.plex.specs.Sets.{Set, Agreement, card, none, only, ◌∩◌, ◌∪◌, ◌∖◌, ◌⊆◌}
use Rattle.plex.proofs.Count.{card_ext, card_mono, card_or, card_less, card_some}
use Rattle.ceiling.specs.Formulas.{pair_number}
use Rattle.ceiling.specs.Laws.{SmallestOfTwo}
use Rattle.rule.specs.Passes.{Lowered}
use Rattle.rule.proofs.Passing.{all_left, left_part}

-- which of two marks is named first makes no difference
pub pair_both_ways : (n k : ℕ) (a : Agreement) (s c : Set) (u v : ℕ) → pair_number n k a s c u v ≡ pair_number n k a s c v u
pair_both_ways n k a s c u v =
    omega (arith, card_ext n (c ∩ a u ∩ a v) (c ∩ a v ∩ a u) (λ i _. swapped (c i) (a u i) (a v i)))
  where
    swapped : (x y z : Bool) → ((x && y) && z) ≡ ((x && z) && y)
    swapped x y z = grind arith

-- of the marks of c, at least so many agree with both as agree with the one and with the other, less all of them
pub agree_with_both : (n : ℕ) (c p q : Set) → card n (c ∩ p) + card n (c ∩ q) - card n c ≤ card n (c ∩ p ∩ q)
agree_with_both n c p q =
    omega (
      arith,
      card_or n (c ∩ p) (c ∩ q),
      card_mono n ((c ∩ p) ∪ (c ∩ q)) c (λ i t. within (c i) (p i) (q i) t),
      card_mono n ((c ∩ p) ∩ (c ∩ q)) (c ∩ p ∩ q) (λ i t. shared (c i) (p i) (q i) t),
    )
  where
    within : (x y z : Bool) → ((x && y) || (x && z)) ≡ true → x ≡ true
    within x y z t = grind arith

    shared : (x y z : Bool) → ((x && y) && (x && z)) ≡ true → ((x && y) && z) ≡ true
    shared x y z t = grind arith

-- the smallest so far: pairs of which one mark was passed are taken
pub record LowestOfTwo (s rest : Set) (f : ℕ → ℕ → ℕ) (start m : ℕ) : Type 0 where
  pub below : (u v : ℕ) → s u ≡ true → s v ≡ true → (u ≡ v → ⊥) → (rest u ≡ false) ⊎ (rest v ≡ false) → m ≤ f u v
  pub reached : (m ≡ start) ⊎ ((u : ℕ) × (v : ℕ) × (s u ≡ true) × (s v ≡ true) × (u ≡ v → ⊥) × (m ≡ f u v))

pub two_none : (s rest : Set) (f : ℕ → ℕ → ℕ) (start : ℕ) → rest ≡ s → LowestOfTwo s rest f start start
two_none s rest f start p = record {
  below = λ u v t e d o. elim o [ inl h ↦ absurd (both_ways (rest u) h (left u t)) | inr h ↦ absurd (both_ways (rest v) h (left v e)) ];
  reached = inl refl;
}
  where
    left : s ⊆ rest
    left = all_left rest s (sym p)

module _ (s rest rest' : Set) (f : ℕ → ℕ → ℕ) (start m u m' : ℕ) (both : (x y : ℕ) → f x y ≡ f y x)
    (part : rest ⊆ s) (here : rest u ≡ true) (e : rest' ≡ rest ∖ only u) (low : Lowered rest' (f u) m m') where
  -- a mark of the rest that is not u is left
  left_over : (v : ℕ) → rest v ≡ true → (u ≡ v → ⊥) → rest' v ≡ true
  left_over v t d = ap (λ r. r v) e ∙ grind (arith, nat_tests)

  with_u : (v : ℕ) → rest v ≡ true → (u ≡ v → ⊥) → m' ≤ f u v
  with_u v t d = low.below v (left_over v t d)

  -- not left: u, or passed before
  gone : (v : ℕ) → rest' v ≡ false → (rest v ≡ false) ⊎ (u ≡ v)
  gone v g =
      elim (cases_eq u v) [
        | inl h ↦ inr h
        | inr h ↦ inl (elim (cases_Bool (rest v)) [ inl t ↦ absurd (both_ways (rest' v) g (left_over v t h)) | inr t ↦ t ])
      ]

  -- m' is below the number of a pair of which one mark is u
  beside : LowestOfTwo s rest f start m → (v : ℕ) → s v ≡ true → (u ≡ v → ⊥) → m' ≤ f u v
  beside h v t d =
      elim (cases_Bool (rest v)) [
        | inl r ↦ with_u v r d
        | inr r ↦ omega (arith, low.from, h.below u v (part u here) t d (inr r))
      ]

  below_more : LowestOfTwo s rest f start m → (x y : ℕ) → s x ≡ true → s y ≡ true → (x ≡ y → ⊥) → rest' x ≡ false → m' ≤ f x y
  below_more h x y t r d g =
      elim (gone x g) [
        | inl o ↦ omega (arith, low.from, h.below x y t r d (inl o))
        | inr o ↦ subst (λ z. m' ≤ f z y) o (beside h y r (λ p. d (sym o ∙ p)))
      ]

  pub two_more : LowestOfTwo s rest f start m → LowestOfTwo s rest' f start m'
  two_more h = record {
    below = λ x y t r d o.
        elim o [
          | inl g ↦ below_more h x y t r d g
          | inr g ↦ omega (arith, both x y, below_more h y x r t (λ p. d (sym p)) g)
        ];
    reached =
        elim low.reached [
          | inl x ↦ (elim h.reached [ inl y ↦ inl (x ∙ y) | inr y ↦ inr (y.0, y.1, y.2, y.3, y.4, x ∙ y.5) ])
          | inr x ↦ inr (u, x.0, part u here, left_in x.0 x.1, other_than x.0 x.1, x.2)
        ];
  }
    where
      left_in : rest' ⊆ s
      left_in = left_part s rest rest' u e part

      other_than : (v : ℕ) → rest' v ≡ true → u ≡ v → ⊥
      other_than v t p = let z = sym (ap (λ r. r v) e) ∙ t in grind (arith, nat_tests)

-- a set of two marks or more has two different ones
two_marks : (s : Set) → 1 < card 128 s → (u : ℕ) × (v : ℕ) × (s u ≡ true) × (s v ≡ true) × (u ≡ v → ⊥)
two_marks s h =
    let a = card_some 128 s (omega arith) in
    let b = card_some 128 (s ∖ only a.0) (omega (arith, card_less 128 s a.0 a.1 a.2)) in
    (a.0, b.0, a.2, (and_parts (s b.0) _ b.2).0, apart a.0 b.0 (s b.0) b.2)
  where
    apart : (u v : ℕ) (x : Bool) → (x && not (eqb v u)) ≡ true → u ≡ v → ⊥
    apart u v x t p = grind (arith, nat_tests)

pub two_all : (s rest : Set) (f : ℕ → ℕ → ℕ) (start m : ℕ) → rest ≡ none → 1 < card 128 s → ((u v : ℕ) → f u v < start) → LowestOfTwo s rest f start m → SmallestOfTwo s f m
two_all s rest f start m e two small h = record {
  below = λ u v t r d. h.below u v t r d (inl (ap (λ z. z u) e));
  reached =
      elim h.reached [
        | inl x ↦
            (let p = two_marks s two in
            absurd (omega (arith, small p.0 p.1, h.below p.0 p.1 p.2 p.3 p.4 (inl (ap (λ z. z p.0) e)))))
        | inr x ↦ x
      ];
}
