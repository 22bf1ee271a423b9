-- Words without a fault, said of each place.
use Rattle.std.proofs.Common.{◌≡◌, ℕ, zero, suc, ◌-◌, ◌<◌, Bool, true, false, not, ◌&&◌, eqb, ltb, List, [], ◌∷◌, length, refl, inl, inr, arith, Option}
use Rattle.std.proofs.lemmas.Bool.{true≢false, cases_lt, cases_eq, and_left, and_right, not_from_true, eq-eqb, ne_eqb, eqb-true, le-ltb}
use Rattle.std.proofs.lemmas.Bool.Decides.{nat_tests}
use Rattle.fileword.specs.Layout.{kind, load}
use Rattle.fileword.specs.Faults.{at, marks_said, may_stand, spare_set, in_range, pair_fits, end_load, lacks_end}
use Rattle.fileword.specs.Laws.{Spotless}
use Rattle.fileword.specs.declared.files.Form.{Form}
use Rattle.fileword.specs.declared.files.Fault.TheVariants.{WrongKind, SpareBit, OutOfRange, WrongPair, WrongEnd, NoEnd}

-- each word is as it should be where it stands, and there is an end
pub record Clean (wanted : Option Form) (ws : List ℕ) : Type 0 where
  pub stands : (p : ℕ) → p < length ws → may_stand wanted ws p ≡ true
  pub spares : (p : ℕ) → p < length ws → spare_set (at ws p) ≡ false
  pub range : 0 < length ws → in_range (at ws 0) ≡ true
  pub pairs : (p : ℕ) → p < length ws → kind (at ws p) ≡ 2 → pair_fits (marks_said ws) p (at ws (p - 1)) (at ws p) ≡ true
  pub ends : (p : ℕ) → p < length ws → kind (at ws p) ≡ 15 → load (at ws p) ≡ end_load ws p
  pub ended : lacks_end ws ≡ false

within : (p n : ℕ) (b : Bool) → p < n → (ltb p n && b) ≡ false → b ≡ false
within p n b l h = grind (arith, nat_tests)

within_not : (p n : ℕ) (b : Bool) → p < n → (ltb p n && not b) ≡ false → b ≡ true
within_not p n b l h = grind (arith, nat_tests)

within_at : (p n x y : ℕ) (b : Bool) → p < n → x ≡ y → (ltb p n && (eqb x y && not b)) ≡ false → b ≡ true
within_at p n x y b l e h = grind (arith, nat_tests)

pub clean_from_spotless : (wanted : Option Form) (ws : List ℕ) → Spotless wanted ws → Clean wanted ws
clean_from_spotless wanted ws s = record {
  stands = λ p l. within_not p (length ws) (may_stand wanted ws p) l (s p WrongKind);
  spares = λ p l. within p (length ws) (spare_set (at ws p)) l (s p SpareBit);
  range = λ l. within_at 0 (length ws) 0 0 (in_range (at ws 0)) l refl (s 0 OutOfRange);
  pairs = λ p l e. within_at p (length ws) (kind (at ws p)) 2 (pair_fits (marks_said ws) p (at ws (p - 1)) (at ws p)) l e (s p WrongPair);
  ends = λ p l e. eqb-true (load (at ws p)) (end_load ws p)
      (within_at p (length ws) (kind (at ws p)) 15 (eqb (load (at ws p)) (end_load ws p)) l e (s p WrongEnd));
  ended = there (lacks_end ws) (length ws) (s (length ws) NoEnd);
}
  where
    there : (b : Bool) (n : ℕ) → (eqb n n && b) ≡ false → b ≡ false
    there b n h = grind (arith, nat_tests)

-- a fault that no word within has, is none
outside : (p n : ℕ) (b : Bool) → (p < n → b ≡ false) → (ltb p n && b) ≡ false
outside p n b h =
    elim (cases_lt p n) [ inl l ↦ and_right (ltb p n) b (h l) | inr l ↦ and_left (ltb p n) b (le-ltb p n l) ]

outside_at : (p n x y : ℕ) (b : Bool) → (p < n → x ≡ y → b ≡ true) → (ltb p n && (eqb x y && not b)) ≡ false
outside_at p n x y b h =
    outside p n (eqb x y && not b) (λ l. elim (cases_eq x y) [
      | inl e ↦ and_right (eqb x y) (not b) (not_from_true b (h l e))
      | inr e ↦ and_left (eqb x y) (not b) (ne_eqb x y e)
    ])

pub spotless_from_clean : (wanted : Option Form) (ws : List ℕ) → Clean wanted ws → Spotless wanted ws
spotless_from_clean wanted ws c p WrongKind =
    outside p (length ws) (not (may_stand wanted ws p)) (λ l. not_from_true (may_stand wanted ws p) (c.stands p l))
spotless_from_clean wanted ws c p SpareBit = outside p (length ws) (spare_set (at ws p)) (c.spares p)
spotless_from_clean wanted ws c p OutOfRange =
    outside_at p (length ws) p 0 (in_range (at ws 0)) (λ l e. c.range (omega arith))
spotless_from_clean wanted ws c p WrongPair =
    outside_at p (length ws) (kind (at ws p)) 2 (pair_fits (marks_said ws) p (at ws (p - 1)) (at ws p)) (c.pairs p)
spotless_from_clean wanted ws c p WrongEnd =
    outside_at p (length ws) (kind (at ws p)) 15 (eqb (load (at ws p)) (end_load ws p))
    (λ l e. eq-eqb (load (at ws p)) (end_load ws p) (c.ends p l e))
spotless_from_clean wanted ws c p NoEnd = and_right (eqb p (length ws)) (lacks_end ws) c.ended

-- where there is an end it has a place, and a word of that kind is an end
pub end_place : (ws : List ℕ) → lacks_end ws ≡ false → (q : ℕ) × (q < length ws) × (kind (at ws q) ≡ 15)
end_place [] h = absurd (true≢false h)
end_place (w ∷ ws) h =
    elim (cases_eq (kind w) 15) [
      | inl e ↦ (0, omega arith, e)
      | inr e ↦ (let r = end_place ws (rest (eqb (kind w) 15) (lacks_end ws) (ne_eqb (kind w) 15 e) h) in
          (suc r.0, omega (arith, r.1), r.2))
    ]
  where
    rest : (a b : Bool) → a ≡ false → (not a && b) ≡ false → b ≡ false
    rest a b e h = grind arith

pub end_stands : (ws : List ℕ) (q : ℕ) → q < length ws → kind (at ws q) ≡ 15 → lacks_end ws ≡ false
end_stands [] q l e = absurd (omega arith)
end_stands (w ∷ ws) zero l e = and_left (not (eqb (kind w) 15)) (lacks_end ws) (not_from_true (eqb (kind w) 15) (eq-eqb (kind w) 15 e))
end_stands (w ∷ ws) (suc q) l e = and_right (not (eqb (kind w) 15)) (lacks_end ws) (end_stands ws q (omega arith) e)
