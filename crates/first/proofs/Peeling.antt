-- One round: the degrees when a mark leaves, and what the marks that are left still lead to.
use Rattle.std.proofs.Common.{◌≡◌, ℕ, ◌+◌, ◌<◌, ◌≤◌, min, max, Bool, true, false, not, ◌&&◌, eqb, List, Some, None, Option, sym, ap, ◌∙◌, subst, inl, inr, arith}
use Rattle.std.proofs.lemmas.Bool.Decides.{nat_tests}
use Rattle.std.proofs.lemmas.Bool.{cases_Bool, cases_eq, and_parts}
use Rattle.plex.specs.Sets.{Set, Agreement, one_if, card, only, below, ◌∩◌, ◌∖◌, Within}
use Rattle.plex.specs.Least.{Least}
use Rattle.plex.proofs.Count.{card_ext, card_less, card_beyond}
use Rattle.searching.specs.First.{agreements_inside, most_with, Peels}
use Rattle.searching.specs.First.Peels.{empty, stays, leaves}
use Rattle.first.specs.Degrees.{degree, HasDegrees, OneLess}

-- whatever the marks r lead to, all marks lead to, with the top so far
abbrev pub Onward : ℕ → ℕ → Agreement → Set → ℕ → Type 0
Onward n k a r top = (held : Set) (t : ℕ) → Peels n k a r held t → Peels n k a (below n) held (max top t)

-- all marks lead to what they lead to
pub onward_start : (n k : ℕ) (a : Agreement) (r : Set) → r ≡ below n → Onward n k a r 0
onward_start n k a r e held t p = subst (Peels n k a (below n) held) (omega arith) (subst (λ q. Peels n k a q held t) e p)

-- the largest number of a word is above every number of marks
pub not_cut : (d k c sum most : ℕ) → sum ≡ min (d + k) 4294967295 → most ≡ min sum c → c ≤ 128 → most ≡ min (d + k) c
not_cut d k c sum most e f l = omega arith

module _ (a : Agreement) (both : (i j : ℕ) → a i j ≡ a j i) (r : Set) (u : ℕ) (small : u < 128) (here : r u ≡ true) where
  with_u : (v : ℕ) → a u v ≡ true → card 128 (r ∩ a v) ≡ 1 + card 128 ((r ∖ only u) ∩ a v)
  with_u v t =
      let y : (r u && a v u) ≡ true = (let z = both u v in grind arith) in
      card_less 128 (r ∩ a v) u small y ∙ ap (λ x. 1 + x) (card_ext 128 ((r ∩ a v) ∖ only u) ((r ∖ only u) ∩ a v) (λ i _. swapped (r i) (a v i) (eqb i u)))
    where
      swapped : (x y z : Bool) → ((x && y) && not z) ≡ ((x && not z) && y)
      swapped x y z = grind arith

  without_u : (v : ℕ) → a u v ≡ false → card 128 (r ∩ a v) ≡ card 128 ((r ∖ only u) ∩ a v)
  without_u v f = card_ext 128 (r ∩ a v) ((r ∖ only u) ∩ a v) (λ i _. other i)
    where
      other : (i : ℕ) → (r i && a v i) ≡ ((r i && not (eqb i u)) && a v i)
      other i =
          elim (cases_eq i u) [
            | inl p ↦ (let z : a v i ≡ false = ap (a v) p ∙ both v u ∙ f in grind arith)
            | inr p ↦ grind (arith, nat_tests)
          ]

  -- a mark that agrees with u has an agreement to lose
  pub has_one : (xs : List ℕ) (s : Set) → s ≡ (r ∖ only u) ∩ a u → HasDegrees a r xs → (v : ℕ) → s v ≡ true → 0 < degree xs v
  has_one xs s e h v t =
      let y = and_parts ((r ∖ only u) v) (a u v) (sym (ap (λ q. q v) e) ∙ t) in
      omega (arith, h v (and_parts (r v) _ y.0).0, with_u v y.1)

  degrees_left : (xs ys : List ℕ) → HasDegrees a r xs → OneLess xs ((r ∖ only u) ∩ a u) ys → HasDegrees a (r ∖ only u) ys
  degrees_left xs ys h o v t =
      let d = h v (and_parts (r v) _ t).0 in
      let w = o v in
      elim (cases_Bool (a u v)) [
        | inl y ↦ (let z : one_if ((r ∖ only u) v && a u v) ≡ 1 = grind arith in omega (arith, with_u v y))
        | inr y ↦ (let z : one_if ((r ∖ only u) v && a u v) ≡ 0 = grind arith in omega (arith, without_u v y))
      ]

  -- u leaves, and those that agree with it have one agreement fewer
  pub degrees_after : (xs ys : List ℕ) (r' s : Set) → r' ≡ r ∖ only u → s ≡ (r ∖ only u) ∩ a u → HasDegrees a r xs → OneLess xs s ys → HasDegrees a r' ys
  degrees_after xs ys r' s e f h o =
      subst (λ q. HasDegrees a q ys) (sym e) (degrees_left xs ys h (subst (λ q. OneLess xs q ys) f o))

module _ (n k : ℕ) (a : Agreement) (few : n ≤ 128) (r : Set) (w : Within n r) (xs : List ℕ) (d : HasDegrees a r xs) where
  pub all_count : card 128 r ≡ card n r
  all_count = card_beyond n 128 r w few

  pub degree_count : (i : ℕ) → r i ≡ true → degree xs i ≡ agreements_inside n a r i
  degree_count i t = d i t ∙ card_beyond n 128 (r ∩ a i) (λ j e. w j (and_parts (r j) _ e).0) few

  least_here : (o : Option ℕ) → Least 128 r (degree xs) o → Least n r (agreements_inside n a r) o
  least_here None l = λ i h. l i (omega arith)
  least_here (Some u) l = (
    w u l.1,
    l.1,
    (λ i h t. omega (arith, degree_count i t, degree_count u l.1, l.2 i (omega arith) t)),
    (λ i h t. omega (arith, degree_count i t, degree_count u l.1, l.3 i h t)),
  )

  module _ (top : ℕ) (on : Onward n k a r top) where
    -- no mark is left
    pub onward_empty : Least 128 r (degree xs) None → Peels n k a (below n) r top
    onward_empty l = subst (Peels n k a (below n) r) (omega arith) (on r 0 (empty (least_here None l)))

    module _ (u : ℕ) (l : Least 128 r (degree xs) (Some u)) (top' : ℕ) (e : top' ≡ max top (min (degree xs u + k) (card 128 r))) where
      most : min (degree xs u + k) (card 128 r) ≡ most_with n k a r u
      most = omega (arith, all_count, degree_count u l.1)

      -- the marks are a k-plex
      pub onward_stays : card 128 r ≤ degree xs u + k → Peels n k a (below n) r top'
      onward_stays h =
          subst (Peels n k a (below n) r) (sym (e ∙ ap (max top) most))
          (on r (most_with n k a r u) (stays u (least_here (Some u) l) (omega (arith, all_count, degree_count u l.1))))

      -- u leaves
      pub onward_leaves : (r' : Set) → r' ≡ r ∖ only u → degree xs u + k < card 128 r → Onward n k a r' top'
      onward_leaves r' f h held t p =
          subst (Peels n k a (below n) held) (omega (arith, most))
          (on held (max (most_with n k a r u) t)
          (leaves u (least_here (Some u) l) (omega (arith, all_count, degree_count u l.1)) (subst (λ q. Peels n k a q held t) f p)))
