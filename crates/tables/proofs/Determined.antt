-- The words of a table of pairs follow from their loads and from the agreement.
use Rattle.std.proofs.Common.{◌≡◌, ℕ, ◌<◌, Bool, true, false, ◌&&◌, ◌||◌, eqb, ltb, ◌⊎◌, List, map, length, get_or, sym, ap, ◌∙◌, inl, inr, arith}
use Rattle.std.proofs.lemmas.List.{get_or_default, get_or-map, length-map, same_lists}
use Rattle.std.proofs.lemmas.Bool.{cases_lt}
use Rattle.std.proofs.lemmas.Bool.Decides.{nat_tests}
use Rattle.plex.specs.Meaning.{agree_by}
use Rattle.fileword.specs.Layout.{kind, load, upper, lower, pair_word}
use Rattle.fileword.proofs.Words.{fields_back}
use Rattle.tables.specs.Pairs.{pair_or_struck, stands, out_of_order}
use Rattle.pairing.specs.Naming.{names}
use Rattle.tables.proofs.Among.{among_at, among_place}
use Rattle.tables.proofs.Places.{stands_pair, stands_zero, one_place}

-- what a pair's word says, struck or not
pub record Fits (n w : ℕ) : Type 0 where
  pub kinds : (kind w ≡ 2) ⊎ (kind w ≡ 14)
  pub up : upper w < lower w
  pub inside : lower w < n

fits : (n w : ℕ) → pair_or_struck n w ≡ true → Fits n w
fits n w h = record { kinds = two (kind w) (upper w) (lower w) h; up = rises (kind w) (upper w) (lower w) h; inside = low (kind w) (upper w) (lower w) h }
  where
    two : (k u l : ℕ) → ((eqb k 2 || eqb k 14) && (ltb u l && ltb l n)) ≡ true → (k ≡ 2) ⊎ (k ≡ 14)
    two k u l e = grind (arith, nat_tests)

    rises : (k u l : ℕ) → ((eqb k 2 || eqb k 14) && (ltb u l && ltb l n)) ≡ true → u < l
    rises k u l e = grind (arith, nat_tests)

    low : (k u l : ℕ) → ((eqb k 2 || eqb k 14) && (ltb u l && ltb l n)) ≡ true → l < n
    low k u l e = grind (arith, nat_tests)

agree_up : (n a b : ℕ) (x y : Bool) → a < b → b < n → ((ltb a n && ltb b n) && ((ltb a b && x) || (ltb b a && y))) ≡ x
agree_up n a b x y h k = grind (arith, nat_tests)

-- the words us of one table and vs of another
module _ (us vs : List ℕ) (lu lv n m : ℕ) (eu : (p : ℕ) → stands us lu n p ≡ true) (ev : (p : ℕ) → stands vs lv m p ≡ true)
    (rv : (p q : ℕ) → out_of_order vs lv p q ≡ false) (marks : n ≡ m) (agree : agree_by n (names us) ≡ agree_by m (names vs)) where
  -- a pair that is there in us is there in vs
  pub there : (p : ℕ) → p < length us → p < lu → p < lv → load (get_or us p 0) ≡ load (get_or vs p 0) → kind (get_or us p 0) ≡ 2 →
      get_or us p 0 ≡ get_or vs p 0
  there p l h k e two =
      let w = get_or us p 0 in
      let f = fits n w (stands_pair us lu n p (eu p) h) in
      let a = upper w in
      let b = lower w in
      let word : pair_word a b ≡ w = fields_back 2 w two in
      let named : names us a b ≡ true = among_at us p (pair_word a b) l (sym word) in
      let too : names vs a b ≡ true =
      sym (agree_up m a b (names vs a b) (names vs b a) f.up (omega (arith, f.inside)))
      ∙ sym (ap (λ r. r a b) agree) ∙ agree_up n a b (names us a b) (names us b a) f.up f.inside ∙ named in
      let r = among_place vs (pair_word a b) too in
      let q = r.0 in
      let is : get_or vs q 0 ≡ w = r.2 ∙ word in
      elim (cases_lt q lv) [
        | inl g ↦ sym is ∙ ap (λ o. get_or vs o 0) (one_place vs lv rv q p g k (ap load is ∙ e))
        | inr g ↦ absurd (omega (arith, stands_zero vs lv m q (ev q) g))
      ]

  -- a word is 0 where its load is
  pub pair_load : (p : ℕ) → p < lu → 0 < load (get_or us p 0)
  pair_load p h = let f = fits n (get_or us p 0) (stands_pair us lu n p (eu p) h) in omega (arith, f.up)

module _ (us vs : List ℕ) (lu lv n m : ℕ) (eu : (p : ℕ) → stands us lu n p ≡ true) (ev : (p : ℕ) → stands vs lv m p ≡ true)
    (ru : (p q : ℕ) → out_of_order us lu p q ≡ false) (rv : (p q : ℕ) → out_of_order vs lv p q ≡ false) (marks : n ≡ m)
    (agree : agree_by n (names us) ≡ agree_by m (names vs)) (loads : map load us ≡ map load vs) where
  long : length us ≡ length vs
  long = sym (length-map us load) ∙ ap length loads ∙ length-map vs load

  same_load : (p : ℕ) → p < length us → load (get_or us p 0) ≡ load (get_or vs p 0)
  same_load p l = sym (get_or-map load us p 0 0 l) ∙ ap (λ xs. get_or xs p 0) loads ∙ get_or-map load vs p 0 0 (omega (arith, long))

  same_kind : (v w : ℕ) → load v ≡ load w → kind v ≡ 14 → kind w ≡ 14 → v ≡ w
  same_kind v w e f g = omega arith

  here : (p : ℕ) → p < length us → get_or us p 0 ≡ get_or vs p 0
  here p l =
      let e = same_load p l in
      elim (cases_lt p lu) [
        | inl h ↦
            elim (cases_lt p lv) [
              | inl k ↦
                  elim (fits n (get_or us p 0) (stands_pair us lu n p (eu p) h)).kinds [
                    | inl two ↦ there us vs lu lv n m eu ev rv marks agree p l h k e two
                    | inr struck ↦
                        elim (fits m (get_or vs p 0) (stands_pair vs lv m p (ev p) k)).kinds [
                          | inl two ↦ sym (there vs us lv lu m n ev eu ru (sym marks) (sym agree) p (omega (arith, long)) k h (sym e) two)
                          | inr too ↦ same_kind (get_or us p 0) (get_or vs p 0) e struck too
                        ]
                  ]
              | inr k ↦ absurd (omega (arith, e, pair_load us vs lu lv n m eu ev rv marks agree p h, ap load (stands_zero vs lv m p (ev p) k)))
            ]
        | inr h ↦
            elim (cases_lt p lv) [
              | inl k ↦ absurd (omega (arith, e, pair_load vs us lv lu m n ev eu ru (sym marks) (sym agree) p k, ap load (stands_zero us lu n p (eu p) h)))
              | inr k ↦ stands_zero us lu n p (eu p) h ∙ sym (stands_zero vs lv m p (ev p) k)
            ]
      ]

  pub words_follow : us ≡ vs
  words_follow = same_lists us vs long (λ p d l. get_or_default us p d 0 l ∙ here p l ∙ get_or_default vs p 0 d (omega (arith, long)))
