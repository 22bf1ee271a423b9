-- co-pruning in rounds gives the largest good set
use Rattle.std.proofs.Common.{◌≡◌, ℕ, zero, suc, ◌*◌, ◌<◌, ◌≤◌, true, false, leb, refl, inl, inr, zero-le, arith}
use Rattle.std.proofs.lemmas.Bool.Decides.{nat_tests}
use Rattle.std.proofs.lemmas.Bool.{cases_lt, cases_Bool, cases_eq, leb-true, le-leb, and_parts, and_from, false≢true}
use Rattle.plex.specs.Sets.{Agreement, card, ◌∩◌, ◌⊑◌, TwoWay, Among}
use Rattle.pruning.specs.Pruned.{Good, Largest, sum_to, agreements_at_ends}
use Rattle.pruning.specs.Rounds.{one_round, rounds}
use Rattle.plex.proofs.Count.{card_mono, card_le, card_strict}

pub sum_mono : (n : ℕ) (f g : ℕ → ℕ) → ((i : ℕ) → f i ≤ g i) → sum_to n f ≤ sum_to n g
unfolding sum_to
sum_mono zero f g h = zero-le
sum_mono (suc n) f g h = omega (arith, sum_mono n f g h, h n)

pub sum_strict : (n : ℕ) (f g : ℕ → ℕ) (u : ℕ) → ((i : ℕ) → f i ≤ g i) → u < n → f u < g u → sum_to n f < sum_to n g
unfolding sum_to
sum_strict zero f g u h l s = let z : ⊥ = omega arith in absurd z
sum_strict (suc n) f g u h l s =
    elim (cases_eq u n) [
      | inl e ↦ let b : f n < g n = rw (← e) s in omega (arith, sum_mono n f g h)
      | inr e ↦ omega (arith, sum_strict n f g u h (omega arith) s, h n)
    ]

pub total_strict : (n : ℕ) (h g : Agreement) (u v : ℕ) → h ⊑ g → u < n → v < n → h u v ≡ false → g u v ≡ true → agreements_at_ends n h < agreements_at_ends n g
total_strict n h g u v s lu lv f t =
    sum_strict n (λ i. card n (h i)) (λ i. card n (g i)) u (λ i. card_mono n (h i) (g i) (s i)) lu (card_strict n (h u) (g u) v (s u) lv f t)

module _ (n x y : ℕ) where
  abbrev round : Agreement → Agreement
  round g = one_round n x y g

  module _ (g : Agreement) (w : Among n g) where
    round_part : (round g) ⊑ g
    round_part i j t = (and_parts (g i j) _ t).0

    round_between : Among n (round g)
    round_between i j t = w i j (round_part i j t)

    round_both : TwoWay g → TwoWay (round g)
    round_both s i j t =
        let z = s i j in
        let c = card_mono n (g i ∩ g j) (g j ∩ g i) (λ m. grind arith) in
        grind (arith, nat_tests)

    round_keeps : (h : Agreement) → Good n x y h → h ⊑ g → h ⊑ (round g)
    round_keeps h p s i j t =
        let a = p.ends i j t in
        let b = p.ends j i (p.both i j t) in
        let c = p.share i j t in
        let a' = card_mono n (h i) (g i) (s i) in
        let b' = card_mono n (h j) (g j) (s j) in
        let c' = card_mono n (h i ∩ h j) (g i ∩ g j) (λ m. let z = s i m in let y = s j m in grind arith) in
        and_from (g i j) _ (s i j t) (and_from (leb x (card n (g i))) _ (le-leb x (card n (g i)) (omega arith))
        (and_from (leb x (card n (g j))) _ (le-leb x (card n (g j)) (omega arith)) (le-leb y (card n (g i ∩ g j)) (omega arith))))

    round_good : TwoWay g → g ⊑ (round g) → Good n x y (round g)
    round_good s u = record {
      both = round_both s;
      ends = λ i j t.
          let e = (and_parts (g i j) _ t).1 in
          omega (arith, leb-true x (card n (g i)) (and_parts (leb x (card n (g i))) _ e).0, card_mono n (g i) (round g i) (u i));
      share = λ i j t.
          let e = (and_parts (leb x (card n (g i))) _ (and_parts (g i j) _ t).1).1 in
          omega (
            arith,
            leb-true y (card n (g i ∩ g j)) (and_parts (leb x (card n (g j))) _ e).1,
            card_mono n (g i ∩ g j) (round g i ∩ round g j) (λ m. let z = u i m in let y = u j m in grind arith),
          );
    }

  prune_part : (m : ℕ) (g : Agreement) → Among n g → (rounds m n x y g) ⊑ g
  unfolding rounds
  prune_part zero g w i j t = t
  prune_part (suc m) g w i j t = round_part g w i j (prune_part m (round g) (round_between g w) i j t)

  prune_most : (m : ℕ) (g h : Agreement) → Among n g → Good n x y h → h ⊑ g → h ⊑ (rounds m n x y g)
  unfolding rounds
  prune_most zero g h w p s = s
  prune_most (suc m) g h w p s = prune_most m (round g) h (round_between g w) p (round_keeps g w h p s)

  -- what is good already stays as it is
  good_stays : (m : ℕ) (g : Agreement) → Among n g → Good n x y g → Good n x y (rounds m n x y g)
  good_stays m g w p =
      let d = prune_part m g w in
      let u = prune_most m g g w p (λ _ _ t. t) in record {
        both = λ i j t. u j i (p.both i j (d i j t));
        ends = λ i j t. omega (arith, p.ends i j (d i j t), card_mono n (g i) (rounds m n x y g i) (u i));
        share = λ i j t. omega (
          arith,
          p.share i j (d i j t),
          card_mono n (g i ∩ g j) (rounds m n x y g i ∩ rounds m n x y g j) (λ m. let z = u i m in let y = u j m in grind arith),
        );
      }

  none_good : (g : Agreement) → Among n g → agreements_at_ends n g ≤ 0 → Good n x y g
  none_good g w l =
      let out : (i j : ℕ) → g i j ≡ true → ⊥ = λ i j t.
      omega (arith, total_strict n (λ _ _. false) g i j (λ _ _ e. absurd (false≢true e)) (w i j t).0 (w i j t).1 refl t) in
      record { both = λ i j t. absurd (out i j t); ends = λ i j t. absurd (out i j t); share = λ i j t. absurd (out i j t) }

  prune_good : (m : ℕ) (g : Agreement) → Among n g → TwoWay g → agreements_at_ends n g ≤ m → Good n x y (rounds m n x y g)
  unfolding rounds
  prune_good zero g w s l = none_good g w l
  prune_good (suc m) g w s l =
      elim (cases_lt (agreements_at_ends n (round g)) (agreements_at_ends n g)) [
        | inl e ↦ prune_good m (round g) (round_between g w) (round_both g w s) (omega arith)
        | inr e ↦ good_stays m (round g) (round_between g w) (round_good g w s (λ i j t. elim (cases_Bool (round g i j))
            [ inl b ↦ b | inr b ↦ let z : ⊥ = omega (arith, total_strict n (round g) g i j (round_part g w) (w i j t).0 (w i j t).1 b t) in absurd z ]))
      ]

  pub prune_is : (m : ℕ) (g : Agreement) → Among n g → TwoWay g → agreements_at_ends n g ≤ m → Largest n x y g (rounds m n x y g)
  prune_is m g w s l = record { good = prune_good m g w s l; part = prune_part m g w; most = λ h p u. prune_most m g h w p u }

pub sum_le : (n m : ℕ) (f : ℕ → ℕ) → ((i : ℕ) → f i ≤ m) → sum_to n f ≤ n * m
unfolding sum_to
sum_le zero m f h = zero-le
sum_le (suc n) m f h = omega (arith, sum_le n m f h, h n)

pub total_le : (n : ℕ) (g : Agreement) → agreements_at_ends n g ≤ n * n
total_le n g = sum_le n n (λ i. card n (g i)) (λ i. card_le n (g i))
