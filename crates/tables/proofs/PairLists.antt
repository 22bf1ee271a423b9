-- The list of the words of all pairs: how long it is, that it rises, and what is among it.
use Rattle.std.proofs.Common.{◌≡◌, ℕ, zero, suc, ◌+◌, ◌-◌, ◌*◌, ◌^◌, ◌<◌, ◌≤◌, Bool, true, false, not, ◌&&◌, ◌||◌, ltb, List, [], ◌∷◌, ◌++◌, map, length, get_or, sym, refl, ap, ◌∙◌, ap₂, inl, inr, append_assoc, append-nil, add-one, arith, length-append}
use mathlib.Core.List.{map-append}
use Rattle.std.specs.List.{AllByRecursion}
use Rattle.std.proofs.ByRecursion.{All-get_or, All-from_get_or, All-append, All-weaker}
use Rattle.std.proofs.lemmas.List.{length-map, get_or-map, get_or_append_left, get_or-append_right}
use Rattle.std.proofs.lemmas.Bool.{cases_lt, or_left, or_right}
use Rattle.std.proofs.lemmas.Bool.Decides.{nat_tests}
use Rattle.plex.specs.Sets.{Set, Agreement, one_if, card, among, below, if_in, rising, ◌∖◌}
use Rattle.plex.specs.Meaning.{agree_by}
use Rattle.plex.proofs.Rising.{length_rising, rising_within, rising_all, rising_rises, rising_none}
use Rattle.pruning.specs.Pruned.{sum_to, agreements}
use Rattle.fileword.specs.Layout.{kind, load, upper, lower, pair_word}
use Rattle.fileword.proofs.Words.{kind_fields, upper_fields, lower_fields}
use Rattle.tables.specs.Pairs.{row_pairs, pairs_to}
use Rattle.pairing.specs.Naming.{names}
use Rattle.tables.proofs.Among.{among_at, among_place}
use Rattle.std.specs.Cmp.{both_ways}
use Rattle.pairing.proofs.Naming.{among_append}

-- how many words the pairs with the first marks have
abbrev pub higher : ℕ → Agreement → ℕ → ℕ
higher n r i = card n (r i ∖ below (i + 1))

pub length_row : (i n : ℕ) (s : Set) → length (row_pairs i n s) ≡ card n (s ∖ below (i + 1))
length_row i n s = length-map (rising n (s ∖ below (i + 1))) (pair_word i) ∙ length_rising n (s ∖ below (i + 1))

pub length_pairs : (m n : ℕ) (r : Agreement) → length (pairs_to m n r) ≡ sum_to m (higher n r)
unfolding pairs_to sum_to
length_pairs zero n r = refl
length_pairs (suc m) n r =
    omega (arith, length-append (pairs_to m n r) (row_pairs m n (r m)), length_pairs m n r, length_row m n (r m))

-- a word of an agreement whose lower mark is i or more and below m
pub record PairOf (r : Agreement) (i m n w : ℕ) : Type 0 where
  pub kind_is : kind w ≡ 2
  pub up : upper w < lower w
  pub inside : lower w < n
  pub from : i ≤ upper w
  pub under : upper w < m
  pub agree : r (upper w) (lower w) ≡ true

taken : (a b : Bool) → (a && not b) ≡ true → (a ≡ true) × (b ≡ false)
taken a b h = (grind arith, grind arith)

row_good : (r : Agreement) (i n : ℕ) → i < n → n ≤ 128 → AllByRecursion (PairOf r i (suc i) n) (row_pairs i n (r i))
row_good r i n hi few =
    All-from_get_or (PairOf r i (suc i) n) (row_pairs i n (r i)) 0 (λ p l.
    let s = r i ∖ below (i + 1) in
    let k : p < length (rising n s) = omega (arith, length-map (rising n s) (pair_word i)) in
    let b = get_or (rising n s) p 0 in
    let w = rising_within n s p k in
    let t = taken (r i b) (ltb b (i + 1)) w.1 in
    let e : get_or (row_pairs i n (r i)) p 0 ≡ pair_word i b = get_or-map (pair_word i) (rising n s) p 0 0 k in
    let up : upper (get_or (row_pairs i n (r i)) p 0) ≡ i = ap upper e ∙ upper_fields 2 i b (omega arith) (omega (arith, w.0)) in
    let low : lower (get_or (row_pairs i n (r i)) p 0) ≡ b = ap lower e ∙ lower_fields 2 i b (omega arith) (omega (arith, w.0)) in
    let above : i < b = higher_than i b t.1 in
    record {
      kind_is = ap kind e ∙ kind_fields 2 i b (omega arith) (omega (arith, w.0));
      up = omega arith;
      inside = omega (arith, w.0);
      from = omega arith;
      under = omega arith;
      agree = ap₂ r up low ∙ t.0;
    })
  where
    higher_than : (i b : ℕ) → ltb b (i + 1) ≡ false → i < b
    higher_than i b h = grind (arith, nat_tests)

pub pairs_good : (r : Agreement) (m n : ℕ) → m ≤ n → n ≤ 128 → AllByRecursion (PairOf r 0 m n) (pairs_to m n r)
unfolding pairs_to
pairs_good r zero n l few = tt
pairs_good r (suc m) n l few =
    All-append (PairOf r 0 (suc m) n) (pairs_to m n r) (row_pairs m n (r m))
    (All-weaker (PairOf r 0 m n) (PairOf r 0 (suc m) n)
    (λ w h. record { kind_is = h.kind_is; up = h.up; inside = h.inside; from = h.from; under = omega (arith, h.under); agree = h.agree })
    (pairs_to m n r) (pairs_good r m n (omega arith) few))
    (All-weaker (PairOf r m (suc m) n) (PairOf r 0 (suc m) n)
    (λ w h. record { kind_is = h.kind_is; up = h.up; inside = h.inside; from = omega arith; under = h.under; agree = h.agree })
    (row_pairs m n (r m)) (row_good r m n (omega arith) few))

-- the loads rise
abbrev pub RisingLoads : List ℕ → Type 0
RisingLoads xs = (p q : ℕ) → p < q → q < length xs → load (get_or xs p 0) < load (get_or xs q 0)

rising_append : (xs ys : List ℕ) → RisingLoads xs → RisingLoads ys →
    ((p q : ℕ) → p < length xs → q < length ys → load (get_or xs p 0) < load (get_or ys q 0)) → RisingLoads (xs ++ ys)
rising_append xs ys f g h p q l m =
    elim (cases_lt q (length xs)) [
      | inl a ↦
          (let e = get_or_append_left xs ys 0 p (omega arith) in
          let d = get_or_append_left xs ys 0 q a in
          omega (arith, f p q l a, ap load e, ap load d))
      | inr a ↦
          (let d = get_or-append_right xs ys (length xs) q 0 refl a in
          let k : q - length xs < length ys = omega (arith, length-append xs ys) in
          elim (cases_lt p (length xs)) [
            | inl b ↦ (let e = get_or_append_left xs ys 0 p b in omega (arith, h p (q - length xs) b k, ap load e, ap load d))
            | inr b ↦
                (let e = get_or-append_right xs ys (length xs) p 0 refl b in
                omega (arith, g (p - length xs) (q - length xs) (omega arith) k, ap load e, ap load d))
          ])
    ]

load_pair : (a b : ℕ) → a < 128 → b < 128 → load (pair_word a b) ≡ a * 2 ^ 14 + b
load_pair a b h k = omega arith

row_rises : (i n : ℕ) (s : Set) → i < n → n ≤ 128 → RisingLoads (row_pairs i n s)
row_rises i n s hi few p q l m =
    let t = s ∖ below (i + 1) in
    let k : q < length (rising n t) = omega (arith, length-map (rising n t) (pair_word i)) in
    let j : p < length (rising n t) = omega arith in
    let d = get_or-map (pair_word i) (rising n t) p 0 0 j in
    let e = get_or-map (pair_word i) (rising n t) q 0 0 k in
    let a = load_pair i (get_or (rising n t) p 0) (omega arith) (omega (arith, (rising_within n t p j).0)) in
    let b = load_pair i (get_or (rising n t) q 0) (omega arith) (omega (arith, (rising_within n t q k).0)) in
    omega (arith, ap load d, ap load e, rising_rises n t p q l k)

load_order : (v w m : ℕ) → upper v < m → m ≤ upper w → load v < load w
load_order v w m h k = omega arith

pub pairs_rise : (r : Agreement) (m n : ℕ) → m ≤ n → n ≤ 128 → RisingLoads (pairs_to m n r)
unfolding pairs_to
pairs_rise r zero n l few = λ p q a b. absurd (omega arith)
pairs_rise r (suc m) n l few =
    rising_append (pairs_to m n r) (row_pairs m n (r m)) (pairs_rise r m n (omega arith) few) (row_rises m n (r m) (omega arith) few)
    (λ p q a b.
    load_order (get_or (pairs_to m n r) p 0) (get_or (row_pairs m n (r m)) q 0) m
    (All-get_or (PairOf r 0 m n) (pairs_to m n r) p 0 a (pairs_good r m n (omega arith) few)).under
    (All-get_or (PairOf r m (suc m) n) (row_pairs m n (r m)) q 0 b (row_good r m n (omega arith) few)).from)

-- a pair that agrees is among the words
row_has : (r : Agreement) (a b n : ℕ) → a < b → b < n → r a b ≡ true → among (row_pairs a n (r a)) (pair_word a b) ≡ true
row_has r a b n l h t =
    let s = r a ∖ below (a + 1) in
    let q = rising_all n s b h (higher_one (r a b) a b t l) in
    among_at (row_pairs a n (r a)) q.0 (pair_word a b) (omega (arith, q.1, length-map (rising n s) (pair_word a)))
    (get_or-map (pair_word a) (rising n s) q.0 0 0 q.1 ∙ ap (pair_word a) q.2)
  where
    higher_one : (c : Bool) (a b : ℕ) → c ≡ true → a < b → (c && not (ltb b (a + 1))) ≡ true
    higher_one c a b e l = grind (arith, nat_tests)

pub pairs_have : (r : Agreement) (m n a b : ℕ) → a < m → a < b → b < n → r a b ≡ true → among (pairs_to m n r) (pair_word a b) ≡ true
unfolding pairs_to
pairs_have r zero n a b k l h t = absurd (omega arith)
pairs_have r (suc m) n a b k l h t =
    among_append (pairs_to m n r) (row_pairs m n (r m)) (pair_word a b)
    ∙ elim (cases_lt a m) [
      | inl c ↦ or_left (among (pairs_to m n r) (pair_word a b)) (among (row_pairs m n (r m)) (pair_word a b)) (pairs_have r m n a b c l h t)
      | inr c ↦
          (let e : a ≡ m = omega arith in
          or_right (among (pairs_to m n r) (pair_word a b)) (among (row_pairs m n (r m)) (pair_word a b))
          (ap (λ i. among (row_pairs i n (r i)) (pair_word a b)) (sym e) ∙ row_has r a b n l h t))
    ]

pub pairs_only : (r : Agreement) (n a b : ℕ) → n ≤ 128 → a < n → b < n → among (pairs_to n n r) (pair_word a b) ≡ true → r a b ≡ true
pairs_only r n a b few h k t =
    let q = among_place (pairs_to n n r) (pair_word a b) t in
    let g = All-get_or (PairOf r 0 n n) (pairs_to n n r) q.0 0 q.1 (pairs_good r n n (omega arith) few) in
    let u : upper (get_or (pairs_to n n r) q.0 0) ≡ a = ap upper q.2 ∙ upper_fields 2 a b (omega arith) (omega arith) in
    let l : lower (get_or (pairs_to n n r) q.0 0) ≡ b = ap lower q.2 ∙ lower_fields 2 a b (omega arith) (omega arith) in
    sym (ap₂ r u l) ∙ g.agree

-- so the list names just the agreements
pub pairs_name : (n : ℕ) (r : Agreement) → n ≤ 128 → ((i j : ℕ) → r i j ≡ r j i) → ((i : ℕ) → r i i ≡ false) →
    ((i j : ℕ) → n ≤ i → r i j ≡ false) → (i j : ℕ) → agree_by n (names (pairs_to n n r)) i j ≡ r i j
pairs_name n r few both self inside i j =
    fits i j (names (pairs_to n n r) i j) (names (pairs_to n n r) j i) (r i j) (λ h. inside i j h) (λ h. both i j ∙ inside j i h)
    (λ h. ap (r i) (sym h) ∙ self i) (λ h k l. both_ways _ _ (pairs_only r n i j few h k) (pairs_have r n n i j h l k))
    (λ h k l. both_ways _ _ (pairs_only r n j i few k h) (pairs_have r n n j i k l h) ∙ both j i)
  where
    fits : (i j : ℕ) (x y z : Bool) → (n ≤ i → z ≡ false) → (n ≤ j → z ≡ false) → (i ≡ j → z ≡ false) → (i < n → j < n → i < j → x ≡ z) →
        (i < n → j < n → j < i → y ≡ z) → ((ltb i n && ltb j n) && ((ltb i j && x) || (ltb j i && y))) ≡ z
    fits i j x y z a b c d e = grind (arith, nat_tests)

-- a list one mark further
pub rising_takes : (s : Set) (j : ℕ) → s j ≡ true → rising (j + 1) s ≡ rising j s ++ j ∷ []
unfolding rising
rising_takes s j e = rw add-one (ap (λ b. rising j s ++ if_in b j) e)

pub rising_skips : (s : Set) (j : ℕ) → s j ≡ false → rising (j + 1) s ≡ rising j s
unfolding rising
rising_skips s j e = rw add-one (ap (λ b. rising j s ++ if_in b j) e ∙ append-nil (rising j s))

pub row_more : (xs ys zs : List ℕ) (i j : ℕ) (s : Set) → s j ≡ true → ys ≡ xs ++ map (pair_word i) (rising j s) → zs ≡ ys ++ pair_word i j ∷ [] →
    zs ≡ xs ++ map (pair_word i) (rising (j + 1) s)
row_more xs ys zs i j s t e f =
    f ∙ ap (λ us. us ++ pair_word i j ∷ []) e ∙ append_assoc xs (map (pair_word i) (rising j s)) (pair_word i j ∷ [])
    ∙ ap (λ us. xs ++ us) (sym (map-append (pair_word i) (rising j s) (j ∷ [])) ∙ ap (map (pair_word i)) (sym (rising_takes s j t)))

pub row_same : (xs : List ℕ) (i j : ℕ) (s : Set) → s j ≡ false → xs ++ map (pair_word i) (rising j s) ≡ xs ++ map (pair_word i) (rising (j + 1) s)
row_same xs i j s t = ap (λ us. xs ++ map (pair_word i) us) (sym (rising_skips s j t))

pub row_none : (xs : List ℕ) (i : ℕ) (s : Set) → xs ≡ xs ++ map (pair_word i) (rising (i + 1) (s ∖ below (i + 1)))
row_none xs i s =
    sym (ap (λ us. xs ++ map (pair_word i) us) (rising_none (i + 1) (s ∖ below (i + 1)) (λ p l. gone (s p) p l)) ∙ append-nil xs)
  where
    gone : (b : Bool) (p : ℕ) → p < i + 1 → (b && not (ltb p (i + 1))) ≡ false
    gone b p l = grind (arith, nat_tests)

-- a mark of the row, where row is taken from i + 1 on
pub row_mark : (s : Set) (i j : ℕ) → i + 1 ≤ j → (s ∖ below (i + 1)) j ≡ s j
row_mark s i j l = bit (s j)
  where
    bit : (b : Bool) → (b && not (ltb j (i + 1))) ≡ b
    bit b = grind (arith, nat_tests)

pub card_under : (s : Set) (n j : ℕ) → j < n → s j ≡ true → card j s < card n s
unfolding card
card_under s zero j l t = absurd (omega arith)
card_under s (suc n) j l t =
    elim (cases_lt j n) [
      | inl h ↦ omega (arith, card_under s n j h t)
      | inr h ↦ (let e : n ≡ j = omega arith in omega (arith, ap one_if (ap s e ∙ t), ap (λ i. card i s) e))
    ]

-- the row has no room
pub row_too_long : (xs ys : List ℕ) (i j n : ℕ) (s : Set) → ys ≡ xs ++ map (pair_word i) (rising j s) → length ys ≡ 4096 → j < n → s j ≡ true →
    4096 < length xs + card n s
row_too_long xs ys i j n s e h l t =
    omega (arith, ap length e, length-append xs (map (pair_word i) (rising j s)), length-map (rising j s) (pair_word i), length_rising j s, card_under s n j l t)

pub pairs_more : (i n : ℕ) (r : Agreement) → pairs_to (i + 1) n r ≡ pairs_to i n r ++ row_pairs i n (r i)
unfolding pairs_to
pairs_more i n r = ap (λ k. pairs_to k n r) (add-one i)

pub pairs_none : (n : ℕ) (r : Agreement) → pairs_to 0 n r ≡ []
unfolding pairs_to
pairs_none n r = refl

sum_part : (n i : ℕ) (f : ℕ → ℕ) → i < n → sum_to i f + f i ≤ sum_to n f
unfolding sum_to
sum_part zero i f l = absurd (omega arith)
sum_part (suc n) i f l =
    elim (cases_lt i n) [
      | inl h ↦ omega (arith, sum_part n i f h)
      | inr h ↦ (let e : i ≡ n = omega arith in omega (arith, ap f e, ap (λ k. sum_to k f) e))
    ]

-- one row more, by the set of the marks of a row
module _ (xs : List ℕ) (i n : ℕ) (r : Agreement) (s : Set) (is : xs ≡ pairs_to i n r) (row : s ≡ r i) where
  pub pairs_step : (ys : List ℕ) → ys ≡ xs ++ row_pairs i n s → ys ≡ pairs_to (i + 1) n r
  pairs_step ys e = e ∙ ap₂ (λ zs t. zs ++ row_pairs i n t) is row ∙ sym (pairs_more i n r)

  pub pairs_too_long : (k : ℕ) → n ≡ k → i < n → 4096 < length xs + card n (s ∖ below (i + 1)) → 4096 < agreements k r
  pairs_too_long k e l h =
      rw (← e) (omega (arith, ap (λ t. card n (t ∖ below (i + 1))) row, ap length is, length_pairs i n r, sum_part n i (higher n r) l))
