-- The tests of a table of branches hold just where the branches that they mean are well formed.
use Rattle.std.proofs.Common.{◌≡◌, ℕ, zero, suc, ◌+◌, ◌<◌, ◌≤◌, Bool, true, false, not, ◌&&◌, ◌||◌, ltb, leb, ◌⊎◌, List, refl, sym, ap, subst, inl, inr, arith}
use Rattle.std.proofs.lemmas.Bool.Decides.{nat_tests}
use Rattle.std.proofs.lemmas.Bool.{cases_lt, cases_eq, or_cases, leb-true, le-leb}
use Rattle.plex.specs.Sets.{card, Within, is_kplex}
use Rattle.plex.specs.Words.{holds}
use Rattle.plex.proofs.Decide.{kplex_decides}
use Rattle.tables.specs.Bits.{bit_agrees}
use Rattle.branch.specs.declared.branches.Branch.{Branch}
use Rattle.searching.specs.States.{branch}
use Rattle.searching.specs.Sound.{SoundBranch, SoundBranches, Widening, Stacked}
use Rattle.search.specs.Stacks.{chosen_at, candidates_at, chosen_outside, candidate_outside, in_both, too_large, out_of_order, held_outside}
use Rattle.search.specs.View.{opened}

inside : (x : Bool) (n i j count : ℕ) → j < count → (ltb j count && (leb n i && x)) ≡ false → x ≡ true → i < n
inside x n i j count l e t = grind (arith, nat_tests)

not_both : (x y : Bool) (j count : ℕ) → j < count → (ltb j count && (x && y)) ≡ false → x ≡ true → y ≡ false
not_both x y j count l e t = grind (arith, nat_tests)

small : (x y : Bool) (j count : ℕ) → j < count → (ltb j count && not (x || y)) ≡ false → (x || y) ≡ true
small x y j count l e = grind (arith, nat_tests)

-- what the tests say of the counts of candidates, x of branch j and y of the one above it
in_order : (x y n j count : ℕ) → j + 1 < count → (ltb (j + 1) count && (leb n x || (ltb x y || (ltb (j + 2) count && leb x y)))) ≡ false →
    (x < n) × (y ≤ x) × (j + 2 < count → y < x)
in_order x y n j count l e = (grind (arith, nat_tests), grind (arith, nat_tests), λ m. grind (arith, nat_tests))

-- and the other way
past : (j count : ℕ) (x : Bool) → count ≤ j → (ltb j count && x) ≡ false
past j count x l = grind (arith, nat_tests)

outside_not : (x : Bool) (n i j count : ℕ) → (x ≡ true → i < n) → (ltb j count && (leb n i && x)) ≡ false
outside_not x n i j count h = grind (arith, nat_tests)

both_not : (x y b : Bool) → (x ≡ true → y ≡ false) → (b && (x && y)) ≡ false
both_not x y b h = grind arith

either_not : (x y b : Bool) → (x ≡ true) ⊎ (y ≡ true) → (b && not (x || y)) ≡ false
either_not x y b (inl e) = grind arith
either_not x y b (inr e) = grind arith

order_not : (x y n j count : ℕ) → x < n → y ≤ x → (j + 2 < count → y < x) → (ltb (j + 1) count && (leb n x || (ltb x y || (ltb (j + 2) count && leb x y)))) ≡ false
order_not x y n j count a b c = grind (arith, nat_tests)

module _ (bs : List Branch) (count n k : ℕ) (rows : List (List ℕ)) (group : List ℕ) where
  abbrev size : ℕ → ℕ
  size j = card n (candidates_at bs j)

  module _ (chosens : (j i : ℕ) → chosen_outside bs count n j i ≡ false) (candidates : (j i : ℕ) → candidate_outside bs count n j i ≡ false)
      (apart : (j i : ℕ) → in_both bs count j i ≡ false) (plex : (j : ℕ) → too_large bs count n k rows group j ≡ false) where
    pub sound_here : (j : ℕ) → j < count → SoundBranch n k (bit_agrees rows) (card n (holds group)) (branch (chosen_at bs j) (candidates_at bs j))
    unfolding chosen_outside candidate_outside in_both too_large
    sound_here j l =
        let within : Within n (chosen_at bs j) = λ i t. inside (chosen_at bs j i) n i j count l (chosens j i) t in record {
          chosen = within;
          candidates = λ i t. inside (candidates_at bs j i) n i j count l (candidates j i) t;
          apart = λ i t. not_both (candidates_at bs j i) (chosen_at bs j i) j count l (apart j i) t;
          plex =
              elim (or_cases (is_kplex n k (bit_agrees rows) (chosen_at bs j)) (leb (card n (chosen_at bs j)) (card n (holds group)))
              (small (is_kplex n k (bit_agrees rows) (chosen_at bs j)) (leb (card n (chosen_at bs j)) (card n (holds group))) j count l (plex j))) [
                | inl e ↦ inl ((kplex_decides n k (bit_agrees rows) (chosen_at bs j) within).0 e)
                | inr e ↦ inr (leb-true (card n (chosen_at bs j)) (card n (holds group)) e)
              ];
        }

    pub sound_all : (m : ℕ) → m ≤ count → SoundBranches n k (bit_agrees rows) (card n (holds group)) (opened bs m)
    sound_all zero l = tt
    sound_all (suc m) l = (sound_here m (omega arith), sound_all m (omega arith))

  module _ (ordered : (j : ℕ) → out_of_order bs count n j ≡ false) where
    order : (j : ℕ) → j + 1 < count → (size j < n) × (size (j + 1) ≤ size j) × (j + 2 < count → size (j + 1) < size j)
    unfolding out_of_order
    order j l = in_order (size j) (size (j + 1)) n j count l (ordered j)

    widening_from : (p low : ℕ) → p < count → ((q : ℕ) → p ≡ q + 1 → low ≤ size q) → Widening n low (opened bs p)
    widening_from zero low l h = tt
    widening_from (suc q) low l h =
        let here = order q (omega arith) in (
          h q (omega arith),
          here.0,
          widening_from q (size q + 1) (omega arith) (λ r e.
              let above = (order r (omega arith)).2 (omega arith) in
              let same : size (r + 1) ≡ size q = ap size (sym e) in omega arith),
        )

    pub stacked_all : (m : ℕ) → m ≡ count → Stacked n (opened bs m)
    stacked_all zero e = tt
    stacked_all (suc m) e =
        widening_from m (size m) (omega arith) (λ q f. let s : size (q + 1) ≡ size m = ap size (sym f) in omega (arith, (order q (omega arith)).1))

  -- the other way: each branch of the list is at its place
  sound_at : (m : ℕ) → SoundBranches n k (bit_agrees rows) (card n (holds group)) (opened bs m) → (j : ℕ) → j < m →
      SoundBranch n k (bit_agrees rows) (card n (holds group)) (branch (chosen_at bs j) (candidates_at bs j))
  sound_at zero h j l = absurd (omega arith)
  sound_at (suc m) h j l =
      elim (cases_eq m j) [
        | inl e ↦ subst (λ x. SoundBranch n k (bit_agrees rows) (card n (holds group)) (branch (chosen_at bs x) (candidates_at bs x))) e h.0
        | inr e ↦ sound_at m h.1 j (omega arith)
      ]

  widening_at : (p low : ℕ) → Widening n low (opened bs p) → (j : ℕ) → j < p → (size j < n) × (low ≤ size j) × (j + 1 < p → size (j + 1) < size j)
  widening_at zero low h j l = absurd (omega arith)
  widening_at (suc q) low h j l =
      elim (cases_eq q j) [
        | inl e ↦ (let f : size q ≡ size j = ap size e in (omega (arith, h.1), omega (arith, h.0), λ m. absurd (omega arith)))
        | inr e ↦
            (let r = widening_at q (size q + 1) h.2 j (omega arith) in (
              r.0,
              omega (arith, h.0, r.1),
              (λ m. elim (cases_lt (j + 1) q) [
                | inl y ↦ r.2 y
                | inr y ↦ (let f : size (j + 1) ≡ size q = ap size (omega arith) in omega (arith, r.1))
              ]),
            ))
      ]

  ordered_from : (m : ℕ) → m ≡ count → Stacked n (opened bs m) → (j : ℕ) → out_of_order bs count n j ≡ false
  unfolding out_of_order
  ordered_from zero e h j = past (j + 1) count _ (omega arith)
  ordered_from (suc m) e h j =
      elim (cases_lt (j + 1) count) [
        | inr l ↦ past (j + 1) count _ l
        | inl l ↦
            (let r = widening_at m (size m) h j (omega arith) in
            elim (cases_lt (j + 1) m) [
              | inl y ↦ (let z = r.2 y in order_not (size j) (size (j + 1)) n j count r.0 (omega arith) (λ _. z))
              | inr y ↦
                  (let f : size (j + 1) ≡ size m = ap size (omega arith) in
                  order_not (size j) (size (j + 1)) n j count r.0 (omega (arith, r.1)) (λ g. absurd (omega arith)))
            ])
      ]

-- the test of the group held
held_in : (x : Bool) (n i : ℕ) → (leb n i && x) ≡ false → x ≡ true → i < n
held_in x n i e t = grind (arith, nat_tests)

held_not : (x : Bool) (n i : ℕ) → (x ≡ true → i < n) → (leb n i && x) ≡ false
held_not x n i h = grind (arith, nat_tests)

pub inside_within : (n : ℕ) (group : List ℕ) → ((i : ℕ) → held_outside n group i ≡ false) → Within n (holds group)
unfolding held_outside
inside_within n group h i t = held_in (holds group i) n i (h i) t

-- the tests of a search's type
pub record Passes (bs : List Branch) (count n k : ℕ) (rows : List (List ℕ)) (group : List ℕ) : Type 0 where
  pub chosens : (j i : ℕ) → chosen_outside bs count n j i ≡ false
  pub candidates : (j i : ℕ) → candidate_outside bs count n j i ≡ false
  pub apart : (j i : ℕ) → in_both bs count j i ≡ false
  pub plex : (j : ℕ) → too_large bs count n k rows group j ≡ false
  pub ordered : (j : ℕ) → out_of_order bs count n j ≡ false
  pub inside : (i : ℕ) → held_outside n group i ≡ false

-- what is well formed passes them
pub passes_from : (bs : List Branch) (count n k : ℕ) (rows : List (List ℕ)) (group : List ℕ) →
    SoundBranches n k (bit_agrees rows) (card n (holds group)) (opened bs count) → Stacked n (opened bs count) → Within n (holds group) → Passes bs count n k rows group
unfolding chosen_outside candidate_outside in_both too_large held_outside
passes_from bs count n k rows group branches stacked within = record {
  chosens = λ j i. elim (cases_lt j count) [
    | inl l ↦ outside_not (chosen_at bs j i) n i j count ((sound_at bs count n k rows group count branches j l).chosen i)
    | inr l ↦ past j count (leb n i && chosen_at bs j i) l
  ];
  candidates = λ j i. elim (cases_lt j count) [
    | inl l ↦ outside_not (candidates_at bs j i) n i j count ((sound_at bs count n k rows group count branches j l).candidates i)
    | inr l ↦ past j count (leb n i && candidates_at bs j i) l
  ];
  apart = λ j i. elim (cases_lt j count) [
    | inl l ↦ both_not (candidates_at bs j i) (chosen_at bs j i) (ltb j count) ((sound_at bs count n k rows group count branches j l).apart i)
    | inr l ↦ past j count (candidates_at bs j i && chosen_at bs j i) l
  ];
  plex = λ j. elim (cases_lt j count) [
    | inl l ↦
        (let b = sound_at bs count n k rows group count branches j l in
        elim b.plex [
          | inl q ↦ either_not (is_kplex n k (bit_agrees rows) (chosen_at bs j)) (leb (card n (chosen_at bs j)) (card n (holds group))) (ltb j count)
              (inl ((kplex_decides n k (bit_agrees rows) (chosen_at bs j) b.chosen).1 q))
          | inr q ↦ either_not (is_kplex n k (bit_agrees rows) (chosen_at bs j)) (leb (card n (chosen_at bs j)) (card n (holds group))) (ltb j count)
              (inr (le-leb (card n (chosen_at bs j)) (card n (holds group)) q))
        ])
    | inr l ↦ past j count _ l
  ];
  ordered = ordered_from bs count n k rows group count refl stacked;
  inside = λ i. held_not (holds group i) n i (within i);
}
