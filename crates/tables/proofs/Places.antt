-- The places of a table of pairs.
use Rattle.std.proofs.Common.{◌≡◌, ℕ, ◌+◌, ◌<◌, ◌≤◌, Bool, true, false, cond, not, ◌&&◌, ◌||◌, eqb, ltb, leb, ◌⊎◌, List, length, get_or, take, set, replicate, is_some, Some, None, Option, Ok, Err, Result, sym, ap, ◌∙◌, inl, inr, arith, length-take, get_or-take}
use mathlib.Core.Path.{fun_ext}
use lib.ListN.{length-replicate}
use Rattle.std.proofs.ByRecursion.{All-get_or}
use Rattle.std.proofs.lemmas.List.{get_or-set_other, get_or_past, get_or-replicate}
use Rattle.std.proofs.lemmas.Bool.{cases_lt, cases_Bool, cases_order, eq-eqb, eqb-true, false≢true, false_from_ne_true}
use Rattle.std.proofs.lemmas.Bool.Decides.{nat_tests}
use Rattle.std.specs.Bool.{then_some}
use Rattle.std.specs.Result.{result_ok}
use Rattle.std.specs.Option.{MatchOption}
use Rattle.std.specs.List.Sorted.{IsSearchInRange, IsBinarySearchResult, IsNonDecreasingBy}
use Rattle.std.specs.Ordering.{nat_cmp, ordering_index}
use Rattle.std.proofs.lemmas.Cmp.{ranked}
use Rattle.std.proofs.lemmas.List.Sorted.{IsNonDecreasingBy-from_default}
use Rattle.plex.specs.Sets.{Agreement, among}
use Rattle.plex.specs.Meaning.{agree_by}
use Rattle.pruning.specs.Pruned.{agreements}
use Rattle.fileword.specs.Layout.{kind, load, upper, lower, pair_word}
use Rattle.tables.specs.Pairs.{pair_or_struck, stands, out_of_order, left_over, pairs_to}
use Rattle.pairing.specs.Naming.{names}
use Rattle.tables.specs.Lookup.{Found}
use Rattle.tables.proofs.Among.{among_at, among_place, among_front}
use Rattle.tables.proofs.PairLists.{PairOf, length_pairs, pairs_good, pairs_rise, pairs_name}

-- what the tests of a place say
pub stands_pair : (ws : List ℕ) (len n p : ℕ) → stands ws len n p ≡ true → p < len → pair_or_struck n (get_or ws p 0) ≡ true
unfolding stands
stands_pair ws len n p h l = shown (pair_or_struck n (get_or ws p 0)) (eqb (get_or ws p 0) 0) h
  where
    shown : (a b : Bool) → cond (ltb p len) a b ≡ true → a ≡ true
    shown a b e = grind (arith, nat_tests)

pub stands_zero : (ws : List ℕ) (len n p : ℕ) → stands ws len n p ≡ true → len ≤ p → get_or ws p 0 ≡ 0
unfolding stands
stands_zero ws len n p h l = eqb-true (get_or ws p 0) 0 (shown (pair_or_struck n (get_or ws p 0)) (eqb (get_or ws p 0) 0) h)
  where
    shown : (a b : Bool) → cond (ltb p len) a b ≡ true → b ≡ true
    shown a b e = grind (arith, nat_tests)

pub stands_from : (ws : List ℕ) (len n p : ℕ) → (p < len → pair_or_struck n (get_or ws p 0) ≡ true) → (len ≤ p → get_or ws p 0 ≡ 0) → stands ws len n p ≡ true
unfolding stands
stands_from ws len n p f g = shown (pair_or_struck n (get_or ws p 0)) (get_or ws p 0) f g
  where
    shown : (a : Bool) (w : ℕ) → (p < len → a ≡ true) → (len ≤ p → w ≡ 0) → cond (ltb p len) a (eqb w 0) ≡ true
    shown a w f g = grind (arith, nat_tests)

pub in_order : (ws : List ℕ) (len p q : ℕ) → out_of_order ws len p q ≡ false → p < q → q < len → load (get_or ws p 0) < load (get_or ws q 0)
unfolding out_of_order
in_order ws len p q h l m = shown (load (get_or ws p 0)) (load (get_or ws q 0)) h
  where
    shown : (a b : ℕ) → ((ltb p q && ltb q len) && leb b a) ≡ false → a < b
    shown a b e = grind (arith, nat_tests)

pub ordered_from : (ws : List ℕ) (len p q : ℕ) → (p < q → q < len → load (get_or ws p 0) < load (get_or ws q 0)) → out_of_order ws len p q ≡ false
unfolding out_of_order
ordered_from ws len p q h = shown (load (get_or ws p 0)) (load (get_or ws q 0)) h
  where
    shown : (a b : ℕ) → (p < q → q < len → a < b) → ((ltb p q && ltb q len) && leb b a) ≡ false
    shown a b e = grind (arith, nat_tests)

pub blank_at : (ws : List ℕ) (len p : ℕ) → left_over ws len p ≡ false → len ≤ p → get_or ws p 0 ≡ 0
unfolding left_over
blank_at ws len p h l = shown (get_or ws p 0) h
  where
    shown : (w : ℕ) → (leb len p && not (eqb w 0)) ≡ false → w ≡ 0
    shown w e = grind (arith, nat_tests)

pub blank_from : (ws : List ℕ) (len p : ℕ) → (len ≤ p → get_or ws p 0 ≡ 0) → left_over ws len p ≡ false
unfolding left_over
blank_from ws len p h = shown (get_or ws p 0) h
  where
    shown : (w : ℕ) → (len ≤ p → w ≡ 0) → (leb len p && not (eqb w 0)) ≡ false
    shown w e = grind (arith, nat_tests)

pub blank_zeros : (m len p : ℕ) → left_over (replicate m 0) len p ≡ false
blank_zeros m len p =
    blank_from (replicate m 0) len p (λ _.
    elim (cases_lt p m) [
      | inl h ↦ get_or-replicate m p 0 0 h
      | inr h ↦ get_or_past (replicate m 0) p 0 (simp length-replicate h)
    ])

-- a word put at the first free place
pub blank_pushed : (ws : List ℕ) (len w p : ℕ) → ((q : ℕ) → left_over ws len q ≡ false) → left_over (set ws len w) (len + 1) p ≡ false
blank_pushed ws len w p h =
    blank_from (set ws len w) (len + 1) p (λ l.
    get_or-set_other ws len p w 0 (λ e. omega arith) ∙ blank_at ws len p (h p) (omega arith))

-- the table that a list of the pairs among k marks makes
module _ (ws : List ℕ) (len n k : ℕ) (r : Agreement) (marks : n ≡ k) (few : k ≤ 128) (room : len ≤ length ws) (listed : take len ws ≡ pairs_to k k r)
    (blank : (p : ℕ) → left_over ws len p ≡ false) where
  is : take len ws ≡ pairs_to n n r
  is = listed ∙ ap (λ m. pairs_to m m r) (sym marks)

  under : n ≤ 128
  under = omega arith

  long : length (pairs_to n n r) ≡ len
  long = ap length (sym is) ∙ simp length-take (omega arith)

  here : (p : ℕ) → p < len → get_or ws p 0 ≡ get_or (pairs_to n n r) p 0
  here p l = sym (get_or-take len ws p 0 l) ∙ ap (λ xs. get_or xs p 0) is

  good : (p : ℕ) → p < len → PairOf r 0 n n (get_or (pairs_to n n r) p 0)
  good p l = All-get_or (PairOf r 0 n n) (pairs_to n n r) p 0 (omega (arith, long)) (pairs_good r n n (omega arith) under)

  pub made_fits : agreements k r ≡ len
  made_fits = sym (length_pairs k k r) ∙ ap length (sym listed) ∙ simp length-take (omega arith)

  pub made_each : (p : ℕ) → stands ws len n p ≡ true
  made_each p =
      stands_from ws len n p
      (λ l. let g = good p l in ap (pair_or_struck n) (here p l) ∙ whole (get_or (pairs_to n n r) p 0) g.kind_is g.up g.inside)
      (blank_at ws len p (blank p))
    where
      whole : (w : ℕ) → kind w ≡ 2 → upper w < lower w → lower w < n → pair_or_struck n w ≡ true
      whole w a b c = parts (kind w) (upper w) (lower w) a b c
        where
          parts : (k u l : ℕ) → k ≡ 2 → u < l → l < n → ((eqb k 2 || eqb k 14) && (ltb u l && ltb l n)) ≡ true
          parts k u l a b c = grind (arith, nat_tests)

  pub made_rising : (p q : ℕ) → out_of_order ws len p q ≡ false
  made_rising p q =
      ordered_from ws len p q (λ l m.
      omega (arith, ap load (here p (omega arith)), ap load (here q m), pairs_rise r n n (omega arith) under p q l (omega (arith, long))))

  pub made_fresh : (p : ℕ) → (get_or ws p 0 ≡ 0) ⊎ (kind (get_or ws p 0) ≡ 2)
  made_fresh p =
      elim (cases_lt p len) [
        | inl l ↦ inr (ap kind (here p l) ∙ (good p l).kind_is)
        | inr l ↦ inl (blank_at ws len p (blank p) l)
      ]

  made_names : (a b : ℕ) → names ws a b ≡ names (pairs_to n n r) a b
  made_names a b =
      sym (among_front ws len (pair_word a b) room (omega arith) (λ p l. blank_at ws len p (blank p) l)) ∙ ap (λ xs. among xs (pair_word a b)) is

  pub made_agrees : ((i j : ℕ) → r i j ≡ r j i) → ((i : ℕ) → r i i ≡ false) → ((i j : ℕ) → k ≤ i → r i j ≡ false) → agree_by n (names ws) ≡ r
  made_agrees both self inside =
      ap (agree_by n) (fun_ext (λ a. fun_ext (made_names a))) ∙ fun_ext (λ i. fun_ext (pairs_name n r under both self (λ i j h. inside i j (omega arith)) i))

-- looking a word up by its load
module _ (ws : List ℕ) (len : ℕ) (rises : (p q : ℕ) → out_of_order ws len p q ≡ false) where
  -- each load is at one place
  pub one_place : (p q : ℕ) → p < len → q < len → load (get_or ws p 0) ≡ load (get_or ws q 0) → p ≡ q
  one_place p q l m e =
      elim (cases_order p q) [
        | inl a ↦ a
        | inr a ↦
            elim a [
              | inl b ↦ absurd (omega (arith, in_order ws len p q (rises p q) b m))
              | inr b ↦ absurd (omega (arith, in_order ws len q p (rises q p) b l))
            ]
      ]

  -- where the words behind are 0, a word that none of the first ones is, is nowhere
  nowhere : (w : ℕ) → 0 < w → ((p : ℕ) → len ≤ p → get_or ws p 0 ≡ 0) → ((p : ℕ) → p < len → get_or ws p 0 ≡ w → ⊥) → among ws w ≡ false
  nowhere w pos zeros h =
      false_from_ne_true (among ws w) (λ t.
      let r = among_place ws w t in
      elim (cases_lt r.0 len) [ inl l ↦ h r.0 l r.2 | inr l ↦ omega (arith, zeros r.0 l, r.2) ])

  -- the comparisons of loads rise along the words, as a binary search asks
  loads_rise : len ≤ length ws → (l : ℕ) → IsNonDecreasingBy (λ w. ordering_index (nat_cmp (load w) l)) (take len ws)
  loads_rise room l =
      IsNonDecreasingBy-from_default (λ w. ordering_index (nat_cmp (load w) l)) (take len ws) 0 (λ i j le lt.
      let m : j < len = omega (arith, simp length-take at lt) in
      higher (load (get_or (take len ws) i 0)) (load (get_or (take len ws) j 0))
      (rw (get_or-take len ws i 0 (omega arith), get_or-take len ws j 0 m) (up i j le m)))
    where
      higher : (a b : ℕ) → a ≤ b → ordering_index (nat_cmp a l) ≤ ordering_index (nat_cmp b l)
      higher a b le = grind (arith, nat_tests)

      up : (i j : ℕ) → i ≤ j → j < len → load (get_or ws i 0) ≤ load (get_or ws j 0)
      up i j le m =
          elim (cases_lt i j) [
            | inl k ↦ omega (arith, in_order ws len i j (rises i j) k m)
            | inr k ↦ (let e : i ≡ j = omega arith in omega (arith, ap (λ q. load (get_or ws q 0)) e))
          ]

  -- what a search by the load of a word says of that word
  pub looked_up : (w : ℕ) → 0 < w → ((p : ℕ) → len ≤ p → get_or ws p 0 ≡ 0) → (r : Result ℕ ℕ) → len ≤ length ws →
      IsSearchInRange r (length (take len ws)) → IsBinarySearchResult (λ v. nat_cmp (load v) (load w)) (take len ws) r →
      MatchOption (result_ok r) (among ws w ≡ false) (λ at. Found ws len w (then_some (eqb (get_or (take len ws) at 0) w) at))
  looked_up w pos zeros (Ok at) room in_range same =
      let l : at < len = omega (arith, simp length-take at in_range) in
      let g = get_or-take len ws at 0 l in
      let e : load (get_or ws at 0) ≡ load w = ap load (sym g) ∙ ranked _ (load w) _ (sym (same 0)) in
      elim (cases_Bool (eqb (get_or (take len ws) at 0) w)) [
        | inl y ↦ rw y (l, omega arith, sym g ∙ eqb-true (get_or (take len ws) at 0) w y)
        | inr n ↦ rw n (nowhere w pos zeros (λ p m is.
            false≢true (sym n ∙ eq-eqb _ w (g ∙ ap (λ q. get_or ws q 0) (one_place at p l m (e ∙ ap load (sym is))) ∙ is))))
      ]
  looked_up w pos zeros (Err at) room in_range parted =
      let two = parted (loads_rise room (load w)) in
      nowhere w pos zeros (λ p m is.
      let k : p < length (take len ws) = simp length-take (omega arith) in
      let e : load (get_or (take len ws) p 0) ≡ load w = ap load (get_or-take len ws p 0 m ∙ is) in
      elim (cases_lt p at) [
        | inl b ↦ omega (arith, e, ranked (load (get_or (take len ws) p 0)) (load w) _ (sym (two.0 p 0 (omega arith) b)))
        | inr b ↦ omega (arith, e, ranked (load (get_or (take len ws) p 0)) (load w) _ (sym (two.1 p 0 b k)))
      ])

pub found_test : (ws : List ℕ) (len w : ℕ) (o : Option ℕ) → Found ws len w o → is_some o ≡ among ws w
found_test ws len w None h = sym h
found_test ws len w (Some p) h = sym (among_at ws p w h.1 h.2)
