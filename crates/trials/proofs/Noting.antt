-- Notes: a place in a row, and the pairs of a ring one by one.
use Rattle.std.proofs.Common.{◌≡◌, ℕ, ◌+◌, ◌%◌, ◌<◌, Bool, true, false, cond, ◌&&◌, ◌||◌, eqb, ltb, List, [], length, get_or, set, refl, sym, ap, ◌∙◌, inl, inr, replicate, arith}
use Rattle.std.proofs.lemmas.Bool.{cases_eq, cases_lt, eq-eqb, ne_eqb}
use Rattle.std.proofs.lemmas.Bool.Decides.{nat_tests}
use Rattle.std.proofs.lemmas.List.{get_or-set_same, get_or-set_other, get_or-replicate, get_or_past}
use lib.ListN.{length-replicate}
use Rattle.trials.specs.Noted.{noted, notable, RowNoted, Notes}

pub place_noted : (row : List Bool) (at : ℕ) (to : Bool) → at < length row → RowNoted row at to (set row at to)
place_noted row at to h q =
    elim (cases_eq q at) [
      | inl e ↦ rw (e, eq-eqb at at refl) (get_or-set_same row at to false h)
      | inr d ↦ rw (ne_eqb q at d) (get_or-set_other row at q to false d)
    ]

-- the ring as far as the marks below i agree with their next
abbrev pub ring_to : ℕ → ℕ → ℕ → ℕ → ℕ → Bool
ring_to n marks i p q = notable n p q && ((ltb p i && eqb q ((p + 1) % marks)) || (ltb q i && eqb p ((q + 1) % marks)))

-- nothing agrees yet
pub none_noted : (n p q : ℕ) → noted (replicate n (replicate n false)) p q ≡ false
none_noted n p q =
    elim (cases_lt p n) [
      | inl h ↦ ap (λ r. get_or r q false) (get_or-replicate n p (replicate n false) [] h) ∙ in_row
      | inr h ↦ ap (λ r. get_or r q false) (get_or_past (replicate n (replicate n false)) p [] (omega (arith, length-replicate n (replicate n false))))
    ]
  where
    in_row : get_or (replicate n false) q false ≡ false
    in_row =
        elim (cases_lt q n) [
          | inl h ↦ get_or-replicate n q false false h
          | inr h ↦ get_or_past (replicate n false) q false (omega (arith, length-replicate n false))
        ]

ring_bit : (n i j p q next_p next_q : ℕ) → (p ≡ i → next_p ≡ j) → (q ≡ i → next_q ≡ j) →
    cond (notable n i j && ((eqb p i && eqb q j) || (eqb p j && eqb q i))) true (notable n p q && ((ltb p i && eqb q next_p) || (ltb q i && eqb p next_q)))
    ≡ (notable n p q && ((ltb p (i + 1) && eqb q next_p) || (ltb q (i + 1) && eqb p next_q)))
ring_bit n i j p q next_p next_q f g =
    elim (cases_eq p i) [
      | inl e ↦ elim (cases_eq q i) [ inl d ↦ (let x = f e in let y = g d in grind (arith, nat_tests)) | inr d ↦ (let x = f e in grind (arith, nat_tests)) ]
      | inr e ↦ elim (cases_eq q i) [ inl d ↦ (let y = g d in grind (arith, nat_tests)) | inr d ↦ grind (arith, nat_tests) ]
    ]

-- one mark more agrees with its next
pub ring_more : (n marks i j : ℕ) (rows rows' : List (List Bool)) → j ≡ (i + 1) % marks → Notes n rows i j true rows' →
    ((p q : ℕ) → noted rows p q ≡ ring_to n marks i p q) → (p q : ℕ) → noted rows' p q ≡ ring_to n marks (i + 1) p q
ring_more n marks i j rows rows' e w r p q =
    w p q
    ∙ ap (cond (notable n i j && ((eqb p i && eqb q j) || (eqb p j && eqb q i))) true) (r p q)
    ∙ ring_bit n i j p q ((p + 1) % marks) ((q + 1) % marks) (λ h. ap (λ x. (x + 1) % marks) h ∙ sym e) (λ h. ap (λ x. (x + 1) % marks) h ∙ sym e)
