use Rattle.std.proofs.Common.{◌≡◌, ℕ, ◌+◌, ◌-◌, ◌*◌, ◌<◌, true, false, inl, inr, arith}
use Rattle.std.proofs.lemmas.Bool.Decides.{nat_tests}
use Rattle.std.proofs.lemmas.Bool.{cases_Bool, or_cases}
use Rattle.plex.specs.Sets.{Set, Agreement, card, struck, ◌∩◌, ◌∖◌, ◌⊆◌, Kplex, ◌⊑◌, TwoWay}
use Rattle.pruning.specs.Pruned.{Good, Largest, Offends, between, either, left_marks}
use Rattle.plex.proofs.Count.{card_mono, card_split}

pub union_good : (n x y : ℕ) (g h : Agreement) → Good n x y g → Good n x y h → Good n x y (either g h)
union_good n x y g h p q = record {
  both = λ i j t. elim (or_cases (g i j) (h i j) t) [ inl e ↦ let z = p.both i j e in grind arith | inr e ↦ let z = q.both i j e in grind arith ];
  ends = λ i j t. elim (or_cases (g i j) (h i j) t) [
    | inl e ↦ omega (arith, p.ends i j e, card_mono n (g i) (either g h i) (λ m. grind arith))
    | inr e ↦ omega (arith, q.ends i j e, card_mono n (h i) (either g h i) (λ m. grind arith))
  ];
  share = λ i j t. elim (or_cases (g i j) (h i j) t) [
    | inl e ↦ omega (arith, p.share i j e, card_mono n (g i ∩ g j) (either g h i ∩ either g h j) (λ m. grind arith))
    | inr e ↦ omega (arith, q.share i j e, card_mono n (h i ∩ h j) (either g h i ∩ either g h j) (λ m. grind arith))
  ];
}

pub largest_unique : (n x y : ℕ) (r g h : Agreement) → Largest n x y r g → Largest n x y r h → (i j : ℕ) → g i j ≡ h i j
largest_unique n x y r g h p q i j =
    let u = p.most h q.good q.part i j in
    let v = q.most g p.good p.part i j in grind arith

-- what offends in g is in no good set of agreements of g, so a struck keeps each of those
pub offender_out : (n x y : ℕ) (g h : Agreement) (u v : ℕ) → Good n x y h → h ⊑ g → Offends n x y g u v → h u v ≡ false
offender_out n x y g h u v p s o =
    elim (cases_Bool (h u v)) [
      | inr e ↦ e
      | inl e ↦
          let a = p.ends u v e in
          let b = p.ends v u (p.both u v e) in
          let c = p.share u v e in
          let a' = card_mono n (h u) (g u) (s u) in
          let b' = card_mono n (h v) (g v) (s v) in
          let c' = card_mono n (h u ∩ h v) (g u ∩ g v) (λ m. let z = s u m in let y = s v m in grind arith) in
          let z : ⊥ = omega arith in absurd z
    ]

pub strike_keeps : (n x y : ℕ) (g h : Agreement) (u v : ℕ) → Good n x y h → h ⊑ g → Offends n x y g u v → h ⊑ (struck u v g)
strike_keeps n x y g h u v p s o i j t =
    let a = offender_out n x y g h u v p s o in
    let b = s i j t in
    let c = p.both i j t in
    grind (arith, nat_tests)

pub strike_both : (u v : ℕ) (g : Agreement) → TwoWay g → TwoWay (struck u v g)
strike_both u v g s i j t = let z = s i j in grind (arith, nat_tests)

-- a k-plex with more than f marks: its agreements are good
pub plex_good : (n k f : ℕ) (r : Agreement) (s : Set) → TwoWay r → Kplex n k r s → f < card n s → Good n (f + 1 - k) (f + 1 - 2 * k) (between r s)
plex_good n k f r s sy p l = record {
  both = λ i j t. let z = sy i j in grind arith;
  ends = λ i j t.
      let q : s i ≡ true = grind arith in
      omega (arith, (p i q).1, card_mono n (s ∩ r i) (between r s i) (λ m. grind arith));
  share = λ i j t.
      let q : s i ≡ true = grind arith in
      let q' : s j ≡ true = grind arith in
      omega (
        arith,
        (p i q).1,
        (p j q').1,
        card_split n s (r i),
        card_split n (s ∩ r i) (r j),
        card_split n s (r j),
        card_mono n (s ∩ r i ∖ r j) (s ∖ r j) (λ m. grind arith),
        card_mono n (s ∩ r i ∩ r j) (between r s i ∩ between r s j) (λ m. grind arith),
      );
}

-- so a k-plex of the sheet with more than f marks is one of what co-pruning leaves, and its marks are left-marks
pub plex_stays : (n k f : ℕ) (r g : Agreement) (s : Set) → TwoWay r → Largest n (f + 1 - k) (f + 1 - 2 * k) r g → Kplex n k r s → f < card n s
    → Kplex n k g s × s ⊆ (left_marks n (f + 1 - k) g)
plex_stays n k f r g s sy b p l =
    let kept = b.most (between r s) (plex_good n k f r s sy p l) (λ i j t. grind arith) in
    let plex : Kplex n k g s = λ i t.
    ((p i t).0, omega (arith, (p i t).1, card_mono n (s ∩ r i) (s ∩ g i) (λ m. let z = kept i m in grind arith))) in (
      plex,
      λ i t.
          let c = plex i t in
          let d = card_mono n (s ∩ g i) (g i) (λ m. grind arith) in
          grind (arith, nat_tests),
    )

-- and a k-plex of fewer agreements is one of more
pub plex_up : (n k : ℕ) (g r : Agreement) (s : Set) → g ⊑ r → Kplex n k g s → Kplex n k r s
plex_up n k g r s b p i t = omega (arith, p i t, card_mono n (s ∩ g i) (s ∩ r i) (λ m. let z = b i m in grind arith))
