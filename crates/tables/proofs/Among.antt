-- What is among the words of a list, by places.
use Rattle.std.proofs.Common.{◌≡◌, ℕ, zero, suc, ◌<◌, ◌≤◌, true, false, not, ◌&&◌, eqb, List, [], ◌∷◌, length, get_or, take, set, sym, ap, ◌∙◌, inl, inr, arith, length-set, length-take, get_or-take}
use Rattle.std.proofs.lemmas.List.{get_or-set_same, get_or-set_other}
use Rattle.std.specs.Cmp.{both_ways}
use Rattle.std.proofs.lemmas.Bool.{cases_eq, cases_lt, or_left, or_right, or_cases, eq-eqb, ne_eqb, eqb-true, false≢true}
use Rattle.plex.specs.Sets.{among}

pub among_at : (xs : List ℕ) (p x : ℕ) → p < length xs → get_or xs p 0 ≡ x → among xs x ≡ true
among_at [] p x l e = absurd (omega arith)
among_at (y ∷ xs) zero x l e = or_left (eqb x y) (among xs x) (eq-eqb x y (sym e))
among_at (y ∷ xs) (suc p) x l e = or_right (eqb x y) (among xs x) (among_at xs p x (omega arith) e)

pub among_place : (xs : List ℕ) (x : ℕ) → among xs x ≡ true → (p : ℕ) × (p < length xs) × (get_or xs p 0 ≡ x)
among_place [] x e = absurd (false≢true e)
among_place (y ∷ xs) x e =
    elim (or_cases (eqb x y) (among xs x) e) [
      | inl h ↦ (zero, omega arith, sym (eqb-true x y h))
      | inr h ↦ let r = among_place xs x h in (suc r.0, omega (arith, r.1), r.2)
    ]

-- two tests that are true together
-- where nothing but 0 stands from len on, the first len words have all but 0
pub among_front : (ws : List ℕ) (len x : ℕ) → len ≤ length ws → 0 < x → ((p : ℕ) → len ≤ p → get_or ws p 0 ≡ 0) → among (take len ws) x ≡ among ws x
among_front ws len x l h z = both_ways (among (take len ws) x) (among ws x) up down
  where
    k : length (take len ws) ≡ len
    k = simp length-take (omega arith)

    up : among (take len ws) x ≡ true → among ws x ≡ true
    up e =
        let r = among_place (take len ws) x e in
        let m : r.0 < len = omega (arith, k, r.1) in
        among_at ws r.0 x (omega arith) (sym (get_or-take len ws r.0 0 m) ∙ r.2)

    down : among ws x ≡ true → among (take len ws) x ≡ true
    down e =
        let r = among_place ws x e in
        elim (cases_lt r.0 len) [
          | inl m ↦ among_at (take len ws) r.0 x (omega (arith, k)) (get_or-take len ws r.0 0 m ∙ r.2)
          | inr m ↦ absurd (omega (arith, z r.0 m, r.2))
        ]

-- a word that stood in one place only was changed to another
pub among_changed : (ws : List ℕ) (p v x : ℕ) → p < length ws → (v ≡ x → ⊥) → ((q : ℕ) → get_or ws q 0 ≡ get_or ws p 0 → q < length ws → q ≡ p) →
    among (set ws p v) x ≡ (among ws x && not (eqb x (get_or ws p 0)))
among_changed ws p v x l d once =
    both_ways (among (set ws p v) x) (among ws x && not (eqb x (get_or ws p 0))) up down
  where
    up : among (set ws p v) x ≡ true → (among ws x && not (eqb x (get_or ws p 0))) ≡ true
    up e =
        let r = among_place (set ws p v) x e in
        let q = r.0 in
        let m : q < length ws = omega (arith, r.1, length-set ws p v) in
        elim (cases_eq q p) [
          | inl f ↦ absurd (d (sym (get_or-set_same ws p v 0 l) ∙ ap (λ s. get_or (set ws p v) s 0) (sym f) ∙ r.2))
          | inr f ↦
              (let is : get_or ws q 0 ≡ x = sym (get_or-set_other ws p q v 0 f) ∙ r.2 in
              let a = among_at ws q x m is in
              let b = ne_eqb x (get_or ws p 0) (λ g. f (once q (is ∙ g) m)) in
              grind arith)
        ]

    down : (among ws x && not (eqb x (get_or ws p 0))) ≡ true → among (set ws p v) x ≡ true
    down e =
        let a : among ws x ≡ true = grind arith in
        let b : eqb x (get_or ws p 0) ≡ false = grind arith in
        let r = among_place ws x a in
        let q = r.0 in
        elim (cases_eq q p) [
          | inl f ↦ absurd (false≢true (sym b ∙ eq-eqb x (get_or ws p 0) (sym r.2 ∙ ap (λ s. get_or ws s 0) f)))
          | inr f ↦ among_at (set ws p v) q x (omega (arith, r.1, length-set ws p v)) (get_or-set_other ws p q v 0 f ∙ r.2)
        ]
