-- Striking one pair in a table of pairs.
use Rattle.std.proofs.Common.{◌≡◌, ℕ, zero, suc, ◌+◌, ◌/◌, ◌^◌, ◌<◌, ◌≤◌, min, max, Bool, true, false, not, ◌&&◌, ◌||◌, eqb, ltb, List, [], ◌∷◌, map, length, get_or, set, sym, ap, ◌∙◌, inl, inr, arith}
use mathlib.Core.Path.{fun_ext}
use Rattle.std.proofs.lemmas.List.{get_or-set_same, get_or-set_other}
use Rattle.std.proofs.lemmas.Bool.{cases_eq, cases_lt}
use Rattle.std.proofs.lemmas.Bool.Decides.{nat_tests}
use Rattle.plex.specs.Sets.{Agreement, struck}
use Rattle.plex.specs.Meaning.{agree_by}
use Rattle.fileword.specs.Layout.{kind, load, upper, lower, pair_word}
use Rattle.fileword.proofs.ReadBack.{pair_word_equal}
use Rattle.tables.specs.Pairs.{pair_or_struck, stands, out_of_order}
use Rattle.pairing.specs.Naming.{names}
use Rattle.tables.proofs.Among.{among_changed}
use Rattle.tables.proofs.Places.{stands_pair, stands_zero, stands_from, in_order, ordered_from, one_place}

-- the word of a struck pair: kind 14 in place of 2
abbrev pub struck_word : ℕ → ℕ
struck_word w = w + 3221225472

load_struck : (w : ℕ) → load (struck_word w) ≡ load w
load_struck w = omega arith

still_fits : (n w : ℕ) → kind w ≡ 2 → pair_or_struck n w ≡ true → pair_or_struck n (struck_word w) ≡ true
still_fits n w k h =
    parts (kind w) (kind (struck_word w)) (upper w) (upper (struck_word w)) (lower w) (lower (struck_word w)) (omega arith)
    (ap (λ l. l / 2 ^ 14) (load_struck w)) (omega arith) h
  where
    parts : (k k' u u' l l' : ℕ) → k' ≡ 14 → u' ≡ u → l' ≡ l → ((eqb k 2 || eqb k 14) && (ltb u l && ltb l n)) ≡ true →
        ((eqb k' 2 || eqb k' 14) && (ltb u' l' && ltb l' n)) ≡ true
    parts k k' u u' l l' a b c h = grind (arith, nat_tests)

pub loads_kept : (ws : List ℕ) (p v : ℕ) → p < length ws → load v ≡ load (get_or ws p 0) → map load (set ws p v) ≡ map load ws
loads_kept [] p v l e = absurd (omega arith)
loads_kept (w ∷ ws) zero v l e = ap (λ x. x ∷ map load ws) e
loads_kept (w ∷ ws) (suc p) v l e = ap (λ xs. load w ∷ xs) (loads_kept ws p v (omega arith) e)

module _ (ws : List ℕ) (len n at w : ℕ) (few : n ≤ 128) (l : at < len) (m : at < length ws) (is : get_or ws at 0 ≡ w) (two : kind w ≡ 2)
    (each : (p : ℕ) → stands ws len n p ≡ true) (rising : (p q : ℕ) → out_of_order ws len p q ≡ false) where
  same_load : (p : ℕ) → load (get_or (set ws at (struck_word w)) p 0) ≡ load (get_or ws p 0)
  same_load p =
      elim (cases_eq p at) [
        | inl e ↦
            ap (λ q. load (get_or (set ws at (struck_word w)) q 0)) e ∙ ap load (get_or-set_same ws at (struck_word w) 0 m) ∙ load_struck w ∙ ap load (sym is)
            ∙ ap (λ q. load (get_or ws q 0)) (sym e)
        | inr e ↦ ap load (get_or-set_other ws at p (struck_word w) 0 e)
      ]

  pub each_kept : (p : ℕ) → stands (set ws at (struck_word w)) len n p ≡ true
  each_kept p =
      elim (cases_eq p at) [
        | inl e ↦
            stands_from (set ws at (struck_word w)) len n p
            (λ _.
            ap (λ q. pair_or_struck n (get_or (set ws at (struck_word w)) q 0)) e ∙ ap (pair_or_struck n) (get_or-set_same ws at (struck_word w) 0 m)
            ∙ still_fits n w two (ap (pair_or_struck n) (sym is) ∙ stands_pair ws len n at (each at) l))
            (λ h. absurd (omega arith))
        | inr e ↦
            stands_from (set ws at (struck_word w)) len n p
            (λ h. ap (pair_or_struck n) (get_or-set_other ws at p (struck_word w) 0 e) ∙ stands_pair ws len n p (each p) h)
            (λ h. get_or-set_other ws at p (struck_word w) 0 e ∙ stands_zero ws len n p (each p) h)
      ]

  pub rising_kept : (p q : ℕ) → out_of_order (set ws at (struck_word w)) len p q ≡ false
  rising_kept p q =
      ordered_from (set ws at (struck_word w)) len p q (λ h k.
      omega (arith, same_load p, same_load q, in_order ws len p q (rising p q) h k))

  pub lasts : map load (set ws at (struck_word w)) ≡ map load ws
  lasts = loads_kept ws at (struck_word w) m (load_struck w ∙ ap load (sym is))

  once : (q : ℕ) → get_or ws q 0 ≡ get_or ws at 0 → q < length ws → q ≡ at
  once q e _ =
      elim (cases_lt q len) [
        | inl h ↦ one_place ws len rising q at h l (ap load e)
        | inr h ↦ absurd (omega (arith, stands_zero ws len n q (each q) h))
      ]

  pub gone : (a b : ℕ) → a < 128 → b < 128 → names (set ws at (struck_word w)) a b ≡ (names ws a b && not (eqb (pair_word a b) w))
  gone a b h k =
      among_changed ws at (struck_word w) (pair_word a b) m (λ e. omega arith) once
      ∙ ap (λ v. names ws a b && not (eqb (pair_word a b) v)) is

-- the agreement without the pair of a lower mark u and a higher mark v
module _ (n u v : ℕ) (r s : Agreement) (few : n ≤ 128) (up : u < v) (top : v < n)
    (h : (a b : ℕ) → a < 128 → b < 128 → s a b ≡ (r a b && not (eqb (pair_word a b) (pair_word u v)))) where
  less : (a b : ℕ) → a < n → b < n → s a b ≡ (r a b && not (eqb u a && eqb v b))
  less a b f g =
      h a b (omega arith) (omega arith)
      ∙ ap (λ t. r a b && not t) (pair_word_equal a b u v (omega arith) (omega arith) (omega arith) (omega arith))

  pub lower_struck : (p q : ℕ) → agree_by n s p q ≡ struck u v (agree_by n r) p q
  lower_struck p q = bits (r p q) (s p q) (r q p) (s q p) (less p q) (less q p)
    where
      bits : (x x' y y' : Bool) → (p < n → q < n → x' ≡ (x && not (eqb u p && eqb v q))) → (q < n → p < n → y' ≡ (y && not (eqb u q && eqb v p))) →
          ((ltb p n && ltb q n) && ((ltb p q && x') || (ltb q p && y')))
          ≡ (((ltb p n && ltb q n) && ((ltb p q && x) || (ltb q p && y))) && not ((eqb p u && eqb q v) || (eqb p v && eqb q u)))
      bits x x' y y' e f = grind (arith, nat_tests)

struck_swap : (u v : ℕ) (r : Agreement) (p q : ℕ) → struck u v r p q ≡ struck v u r p q
struck_swap u v r p q = bits (r p q) (eqb p u) (eqb q v) (eqb p v) (eqb q u)
  where
    bits : (x a b c d : Bool) → (x && not ((a && b) || (c && d))) ≡ (x && not ((c && d) || (a && b)))
    bits x a b c d = grind arith

-- the pair in either order
pub pair_struck : (n i j : ℕ) (r s : Agreement) → n ≤ 128 → i < n → j < n → (i ≡ j → ⊥) →
    ((a b : ℕ) → a < 128 → b < 128 → s a b ≡ (r a b && not (eqb (pair_word a b) (pair_word (min i j) (max i j))))) →
    agree_by n s ≡ struck i j (agree_by n r)
pair_struck n i j r s few hi hj apart h =
    elim (cases_lt i j) [
      | inl l ↦
          (let e : min i j ≡ i = omega arith in
          let f : max i j ≡ j = omega arith in
          fun_ext (λ p. fun_ext (lower_struck n i j r s few l hj (rw (e, f) at h) p)))
      | inr l ↦
          (let e : min i j ≡ j = omega arith in
          let f : max i j ≡ i = omega arith in
          let k : j < i = omega (arith, below_not i j l apart) in
          fun_ext (λ p. fun_ext (λ q. lower_struck n j i r s few k hi (rw (e, f) at h) p q ∙ struck_swap j i (agree_by n r) p q)))
    ]
  where
    below_not : (i j : ℕ) → j ≤ i → (i ≡ j → ⊥) → j < i
    below_not i j l d = omega arith

-- the pair was there
pub pair_there : (n i j : ℕ) (r : Agreement) → i < n → j < n → (i ≡ j → ⊥) → r (min i j) (max i j) ≡ true → true ≡ agree_by n r i j
pair_there n i j r hi hj apart h =
    elim (cases_lt i j) [
      | inl l ↦
          (let e : min i j ≡ i = omega arith in
          let f : max i j ≡ j = omega arith in
          up (r i j) (r j i) l (rw (e, f) at h))
      | inr l ↦
          (let e : min i j ≡ j = omega arith in
          let f : max i j ≡ i = omega arith in
          down (r i j) (r j i) l (rw (e, f) at h))
    ]
  where
    up : (x y : Bool) → i < j → x ≡ true → true ≡ ((ltb i n && ltb j n) && ((ltb i j && x) || (ltb j i && y)))
    up x y l h = grind (arith, nat_tests)

    down : (x y : Bool) → j ≤ i → y ≡ true → true ≡ ((ltb i n && ltb j n) && ((ltb i j && x) || (ltb j i && y)))
    down x y l h = grind (arith, nat_tests)
