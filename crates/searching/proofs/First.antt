-- The first group: there is one, it is a k-plex, and no k-plex is larger than the top.
use Rattle.std.proofs.Common.{◌≡◌, ℕ, zero, suc, ◌+◌, ◌<◌, ◌≤◌, Bool, true, false, leb, ◌⊎◌, Some, None, Option, sym, refl, ap, ◌∙◌, subst, inl, inr, arith}
use Rattle.std.proofs.lemmas.Bool.Decides.{nat_tests}
use Rattle.std.proofs.lemmas.Bool.{cases_lt, cases_Bool, cases_eq, leb-true, leb-false, true≢false}
use Rattle.plex.specs.Sets.{Set, Agreement, card, ◌∩◌, ◌∖◌, only, ◌⊆◌, Kplex, Within}
use Rattle.plex.specs.Least.{least, Least}
use Rattle.plex.proofs.Count.{card_mono, card_none, card_less}
use Rattle.plex.proofs.Least.{least_is}
use Rattle.searching.specs.First.{agreements_inside, most_with, Peels}
use Rattle.searching.specs.First.Peels.{empty, stays, leaves}
use Rattle.searching.specs.Computed.{Found, peel, peel_at, peel_test}

-- what is known of the first group and the top, from the marks r on
pub record Stands (n k : ℕ) (a : Agreement) (r held : Set) (top : ℕ) : Type 0 where
  pub part : held ⊆ r
  pub plex : Kplex n k a held
  pub over : (p : Set) → p ⊆ r → Kplex n k a p → card n p ≤ top

without : (s r : Set) (u : ℕ) → s ⊆ r → s u ≡ false → s ⊆ (r ∖ only u)
without s r u b t i y =
    elim (cases_eq i u) [ inl e ↦ absurd (true≢false (sym y ∙ ap s e ∙ t)) | inr e ↦ (let z = b i y in grind (arith, nat_tests)) ]

pub peels_stands : (n k : ℕ) (a : Agreement) (r held : Set) (top : ℕ) → Within n r → Peels n k a r held top → Stands n k a r held top
peels_stands n k a r held top w (empty l) =
    let z = card_none n r l in record {
      part = λ i t. t;
      plex = λ i t. (w i t, omega arith);
      over = λ p b q. omega (arith, card_mono n p r b);
    }
peels_stands n k a r held top w (stays u l c) = record {
  part = λ i t. t;
  plex = λ i t. (w i t, omega (arith, l.2 i (w i t) t));
  over = λ p b q. omega (arith, card_mono n p r b);
}
peels_stands n k a r held top w (leaves {top = t} u l c p) =
    let f = peels_stands n k a (r ∖ only u) held t (λ i y. w i (grind arith)) p in record {
      part = λ i y. let z = f.part i y in grind arith;
      plex = f.plex;
      over = λ s b q. elim (cases_Bool (s u)) [
        | inl y ↦ omega (arith, (q u y).1, card_mono n s r b, card_mono n (s ∩ a u) (r ∩ a u) (λ i. let z = b i in grind arith))
        | inr y ↦ omega (arith, f.over s (without s r u b y) q)
      ];
    }

same : (n k : ℕ) (a : Agreement) (r : Set) (u v : ℕ) → Least n r (agreements_inside n a r) (Some u) → Least n r (agreements_inside n a r) (Some v) → u ≡ v
same n k a r u v l m =
    elim (cases_lt u v) [
      | inl x ↦ absurd (omega (arith, m.3 u x l.1, l.2 v m.0 m.1))
      | inr x ↦ elim (cases_lt v u) [ inl y ↦ absurd (omega (arith, l.3 v y m.1, m.2 u l.0 l.1)) | inr y ↦ omega arith ]
    ]

-- there is one
pub peels_unique : (n k : ℕ) (a : Agreement) (r h h' : Set) (t t' : ℕ) → Peels n k a r h t → Peels n k a r h' t' → (h ≡ h') × (t ≡ t')
peels_unique n k a r h h' t t' (empty l) (empty l') = (refl, refl)
peels_unique n k a r h h' t t' (empty l) (stays u l' c) = absurd (true≢false (sym l'.1 ∙ l u l'.0))
peels_unique n k a r h h' t t' (empty l) (leaves u l' c p) = absurd (true≢false (sym l'.1 ∙ l u l'.0))
peels_unique n k a r h h' t t' (stays u l c) (empty l') = absurd (true≢false (sym l.1 ∙ l' u l.0))
peels_unique n k a r h h' t t' (leaves u l c p) (empty l') = absurd (true≢false (sym l.1 ∙ l' u l.0))
peels_unique n k a r h h' t t' (stays u l c) (stays v l' c') = (refl, ap (most_with n k a r) (same n k a r u v l l'))
peels_unique n k a r h h' t t' (stays u l c) (leaves v l' c' p) =
    absurd (omega (arith, ap (agreements_inside n a r) (same n k a r u v l l')))
peels_unique n k a r h h' t t' (leaves u l c p) (stays v l' c') =
    absurd (omega (arith, ap (agreements_inside n a r) (same n k a r u v l l')))
peels_unique n k a r h h' t t' (leaves {top = x} u l c p) (leaves {top = x'} v l' c' p') =
    let e = same n k a r u v l l' in
    let q = subst (λ w. Peels n k a (r ∖ only w) h' x') (sym e) p' in
    let i = peels_unique n k a (r ∖ only u) h h' x x' p q in
    (i.0, omega (arith, i.1, ap (most_with n k a r) e))

module _ (m n k : ℕ) (a : Agreement) (rest : Set → Found)
    (ih : (s : Set) → Within n s → card n s ≤ m → Peels n k a s (rest s).group (rest s).top)
    (r : Set) (w : Within n r) (h : card n r ≤ suc m) where
  by_test : (u : ℕ) (b : Bool) → leb (card n r) (agreements_inside n a r u + k) ≡ b → Least n r (agreements_inside n a r) (Some u) →
      Peels n k a r (peel_test rest n k a r u b).group (peel_test rest n k a r u b).top
  by_test u true e l = stays u l (leb-true (card n r) (agreements_inside n a r u + k) e)
  by_test u false e l =
      leaves u l (leb-false (card n r) (agreements_inside n a r u + k) e)
      (ih (r ∖ only u) (λ i t. w i (grind arith)) (omega (arith, card_less n r u l.0 l.1)))

  by_least : (o : Option ℕ) → Least n r (agreements_inside n a r) o → Peels n k a r (peel_at rest n k a r o).group (peel_at rest n k a r o).top
  by_least None l = empty l
  by_least (Some u) l = by_test u (leb (card n r) (agreements_inside n a r u + k)) refl l

-- and rounds enough find it
pub peel_is : (m n k : ℕ) (a : Agreement) (r : Set) → Within n r → card n r ≤ m → Peels n k a r (peel m n k a r).group (peel m n k a r).top
unfolding peel
peel_is zero n k a r w h = empty (λ i l. no_mark i l (cases_Bool (r i)))
  where
    no_mark : (i : ℕ) → i < n → (r i ≡ true) ⊎ (r i ≡ false) → r i ≡ false
    no_mark i l (inl t) = absurd (omega (arith, card_less n r i l t))
    no_mark i l (inr f) = f
peel_is (suc m) n k a r w h =
    by_least m n k a (peel m n k a) (peel_is m n k a) r w h (least n r (agreements_inside n a r)) (least_is n r (agreements_inside n a r))
