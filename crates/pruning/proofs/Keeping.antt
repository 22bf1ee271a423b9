-- Striking offenders one after another, until none is left.
use Rattle.std.proofs.Common.{◌≡◌, ℕ, ◌+◌, ◌*◌, ◌<◌, ◌≤◌, Bool, true, false, ◌&&◌, ◌||◌, ltb, ◌⊎◌, ap, ◌∙◌, inl, inr, mul-le-mul_right, add-mul, one-mul, arith}
use Rattle.std.proofs.Math.Bool.{and_comm}
use Rattle.std.proofs.lemmas.Bool.{or_cases, or_parts, ltb-true, ltb-false, and_parts}
use Rattle.std.proofs.lemmas.Bool.Decides.{nat_tests}
use Rattle.plex.specs.Sets.{Agreement, card, struck, ◌∩◌, TwoWay, Among}
use Rattle.plex.proofs.Count.{card_mono, card_ext}
use Rattle.pruning.specs.Pruned.{Largest, Offends, offends, Kept, agreements_at_ends}
use Rattle.pruning.proofs.Striking.{strike_keeps}
use Rattle.pruning.proofs.Rounds.{sum_mono, total_strict}

pub kept_self : (n a b : ℕ) (r : Agreement) → Kept n a b r r
kept_self n a b r = record { part = λ i j t. t; most = λ h p s. s }

pub kept_on : (n a b : ℕ) (r g h : Agreement) → Kept n a b r g → Kept n a b g h → Kept n a b r h
kept_on n a b r g h p q = record {
  part = λ i j t. p.part i j (q.part i j t);
  most = λ u w s. q.most u w (p.most u w s);
}

-- the test says what offends
pub offends_from : (n a b : ℕ) (g : Agreement) (i j : ℕ) → offends n a b g i j ≡ true → Offends n a b g i j
offends_from n a b g i j e =
    elim (or_cases (ltb (card n (g i)) a) _ e) [
      | inl x ↦ inl (ltb-true (card n (g i)) a x)
      | inr y ↦
          elim (or_cases (ltb (card n (g j)) a) _ y) [
            | inl x ↦ inr (inl (ltb-true (card n (g j)) a x))
            | inr x ↦ inr (inr (ltb-true (card n (g i ∩ g j)) b x))
          ]
    ]

pub offends_both_ways : (n a b : ℕ) (g : Agreement) (i j : ℕ) → offends n a b g i j ≡ offends n a b g j i
offends_both_ways n a b g i j =
    let e = card_ext n (g i ∩ g j) (g j ∩ g i) (λ m _. and_comm (g i m) (g j m)) in
    ap (λ c. ltb (card n (g i)) a || (ltb (card n (g j)) a || ltb c b)) e
    ∙ or_turned (ltb (card n (g i)) a) (ltb (card n (g j)) a) (ltb (card n (g j ∩ g i)) b)
  where
    or_turned : (x y z : Bool) → (x || (y || z)) ≡ (y || (x || z))
    or_turned x y z = grind arith

-- an offender that is struck
pub kept_struck : (n a b : ℕ) (g : Agreement) (u v : ℕ) → offends n a b g u v ≡ true → Kept n a b g (struck u v g)
kept_struck n a b g u v e = record {
  part = λ i j t. (and_parts (g i j) _ t).0;
  most = λ h p s. strike_keeps n a b g h u v p s (offends_from n a b g u v e);
}

-- there are fewer agreements after it
pub struck_fewer : (n : ℕ) (g : Agreement) (u v : ℕ) → Among n g → g u v ≡ true → agreements_at_ends n (struck u v g) < agreements_at_ends n g
struck_fewer n g u v w t =
    total_strict n (struck u v g) g u v (λ i j e. (and_parts (g i j) _ e).0) (w u v t).0 (w u v t).1 (gone u v g) t
  where
    gone : (u v : ℕ) (g : Agreement) → struck u v g u v ≡ false
    gone u v g = grind (arith, nat_tests)

pub kept_fewer : (n a b : ℕ) (r g : Agreement) → Kept n a b r g → agreements_at_ends n g ≤ agreements_at_ends n r
kept_fewer n a b r g k = sum_mono n (λ i. card n (g i)) (λ i. card n (r i)) (λ i. card_mono n (g i) (r i) (k.part i))

-- no agreement offends: what is left is the largest good set
pub largest_at_end : (n a b : ℕ) (r g : Agreement) → TwoWay g → Kept n a b r g → ((i j : ℕ) → g i j ≡ true → offends n a b g i j ≡ false) →
    Largest n a b r g
largest_at_end n a b r g s k h = record {
  good = record {
    both = s;
    ends = λ i j t. ltb-false (card n (g i)) a (or_parts (ltb (card n (g i)) a) _ (h i j t)).0;
    share = λ i j t. ltb-false (card n (g i ∩ g j)) b (or_parts (ltb (card n (g j)) a) _ (or_parts (ltb (card n (g i)) a) _ (h i j t)).1).1;
  };
  part = k.part;
  most = k.most;
}

-- fewer agreements with as much as fits waiting, or as many with less waiting: what a loop has left to do falls
pub work_falls : (t t' c c' w w' : ℕ) → c' ≡ c → t' ≤ t → w' ≤ c → (t' < t) ⊎ (w' < w) → t' * (c' + 1) + w' < t * (c + 1) + w
work_falls t t' c c' w w' e l m (inl s) = omega (arith, ap (λ x. t' * (x + 1)) e, mul-le-mul_right (c + 1) s, add-mul t' 1 (c + 1), one-mul (c + 1))
work_falls t t' c c' w w' e l m (inr s) = omega (arith, ap (λ x. t' * (x + 1)) e, mul-le-mul_right (c + 1) l)
