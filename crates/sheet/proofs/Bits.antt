-- The bits of rows: where they stand, and what setting one does.
use Rattle.std.proofs.Common.{◌≡◌, ℕ, zero, suc, ◌+◌, ◌*◌, ◌/◌, ◌%◌, ◌^◌, ◌<◌, ◌≤◌, Bool, true, false, ◌&&◌, ◌||◌, eqb, List, ◌++◌, length, get_or, take, drop, set, replicate, sym, ap, ◌∙◌, ap₂, inl, inr, mul-le-mul_right, add-mul, one-mul, pow-suc, arith, length-take}
use lib.Bits.{bit_or, or_step, or_zero_r}
use lib.ListN.{length-replicate}
use Rattle.std.proofs.lemmas.Nat.{div-mul-add}
use Rattle.std.proofs.lemmas.List.{get_or-set_same, get_or-set_other, get_or_append_left, get_or-replicate, get_or_past, set-get_or}
use Rattle.std.proofs.lemmas.Bool.{cases_eq, cases_lt, ne_eqb}
use Rattle.std.proofs.lemmas.Bool.Decides.{nat_tests}
use Rattle.plex.specs.Sets.{one_if}
use Rattle.plex.specs.Words.{bits_of}
use Rattle.plex.proofs.Words.{bits_of_or, bits_of_pow, bits_of_none, bits_of_zero, bits_of_suc}
use Rattle.sheet.specs.Rows.{row_words, bit_of, bit_entered}
use Rattle.sheet.proofs.Parts.{part_at}

-- a bit's word
pub bit_at : (ws : List ℕ) (r i j : ℕ) → j / 32 < r → bit_of ws r i j ≡ bits_of (get_or ws (i * r + j / 32) 0) (j % 32)
bit_at ws r i j h = ap (λ w. bits_of w (j % 32)) (part_at ws (i * r) r (j / 32) h)

-- past its row there is none
past_row : (ws : List ℕ) (r i j : ℕ) → r ≤ j / 32 → bit_of ws r i j ≡ false
past_row ws r i j h =
    let l : length (take r (drop (i * r) ws)) ≤ j / 32 = simp length-take (omega arith) in
    ap (λ w. bits_of w (j % 32)) (get_or_past (take r (drop (i * r) ws)) (j / 32) 0 l) ∙ bits_of_none (j % 32)

module _ (n i j : ℕ) (hi : i < n) (hj : j < n) where
  -- it stands within its row, and its row among the rows
  pub bit_in_row : j / 32 < row_words n
  bit_in_row = omega arith

  pub row_in_words : i * row_words n + row_words n ≤ n * row_words n
  row_in_words = omega (arith, mul-le-mul_right (row_words n) hi, add-mul i 1 (row_words n), one-mul (row_words n))

  pub bit_in_words : i * row_words n + j / 32 < n * row_words n
  bit_in_words = omega (arith, row_in_words, bit_in_row)

-- rows do not share a word
same_row : (p i a b r : ℕ) → a < r → b < r → p * r + a ≡ i * r + b → p ≡ i
same_row p i a b r l m e = sym (div-mul-add p r a l) ∙ ap (λ k. k / r) e ∙ div-mul-add i r b m

module _ (ws : List ℕ) (n i j : ℕ) (hi : i < n) (hj : j < n) (room : n * row_words n ≤ length ws) where
  here : i * row_words n + j / 32 < length ws
  here = omega (arith, bit_in_words n i j hi hj)

  -- a bit that is set is there besides those that were
  pub bit_entered_at : (p q : ℕ) → q / 32 < row_words n →
      bit_of (bit_entered ws (row_words n) i j) (row_words n) p q ≡ (bit_of ws (row_words n) p q || (eqb p i && eqb q j))
  bit_entered_at p q in_row =
      let r = row_words n in
      let at = i * r + j / 32 in
      let ws' = bit_entered ws r i j in
      elim (cases_eq (p * r + q / 32) at) [
        | inl e ↦ (let f = same_row p i (q / 32) (j / 32) r in_row (bit_in_row n i j hi hj) e in
            let g : q / 32 ≡ j / 32 = omega (arith, ap (λ k. k * r) f) in
            let new : get_or ws' (p * r + q / 32) 0 ≡ bit_or (get_or ws at 0) (2 ^ (j % 32)) = ap (λ k. get_or ws' k 0) e ∙ get_or-set_same ws at _ 0 here in
            let old : get_or ws (p * r + q / 32) 0 ≡ get_or ws at 0 = ap (λ k. get_or ws k 0) e in
            bit_at ws' r p q in_row ∙ ap (λ w. bits_of w (q % 32)) new
            ∙ bits_of_or (get_or ws at 0) (2 ^ (j % 32)) (q % 32)
            ∙ ap₂ ◌||◌ (ap (λ w. bits_of w (q % 32)) (sym old) ∙ sym (bit_at ws r p q in_row)) (bits_of_pow (j % 32) (q % 32) ∙ same p q f g))
        | inr e ↦ (let old : get_or ws' (p * r + q / 32) 0 ≡ get_or ws (p * r + q / 32) 0 = get_or-set_other ws at (p * r + q / 32) _ 0 e in
            bit_at ws' r p q in_row ∙ ap (λ w. bits_of w (q % 32)) old ∙ sym (bit_at ws r p q in_row)
            ∙ other (bit_of ws r p q) p q (λ f g. e (omega (arith, ap (λ k. k * r) f, ap (λ k. k / 32) g))))
      ]
    where
      same : (p q : ℕ) → p ≡ i → q / 32 ≡ j / 32 → eqb (q % 32) (j % 32) ≡ (eqb p i && eqb q j)
      same p q f g = grind (arith, nat_tests)

      other : (b : Bool) (p q : ℕ) → (p ≡ i → q ≡ j → ⊥) → b ≡ (b || (eqb p i && eqb q j))
      other b p q h = grind (arith, nat_tests)

  -- a bit of another mark is as it was
  pub bit_entered_spare : (p q : ℕ) → (q ≡ j → ⊥) → bit_of (bit_entered ws (row_words n) i j) (row_words n) p q ≡ bit_of ws (row_words n) p q
  bit_entered_spare p q other =
      elim (cases_lt (q / 32) (row_words n)) [
        | inl l ↦ bit_entered_at p q l ∙ ap (λ b. bit_of ws (row_words n) p q || (eqb p i && b)) (ne_eqb q j other) ∙ none (bit_of ws (row_words n) p q) (eqb p i)
        | inr l ↦ past_row (bit_entered ws (row_words n) i j) (row_words n) p q l ∙ sym (past_row ws (row_words n) p q l)
      ]
    where
      none : (x y : Bool) → (x || (y && false)) ≡ x
      none x y = grind arith

-- a word that has a bit is as it was where that bit is set
or_same : (b v : ℕ) → bits_of v b ≡ true → bit_or v (2 ^ b) ≡ v
or_same zero v e = omega (arith, or_step v 1, or_zero_r (v / 2), bits_of_zero v, ap one_if e)
or_same (suc b) v e =
    let h : 2 ^ suc b / 2 ≡ 2 ^ b = omega (arith, pow-suc 2 b) in
    let f = ap (bit_or (v / 2)) h ∙ or_same b (v / 2) (sym (bits_of_suc v b) ∙ e) in
    omega (arith, or_step v (2 ^ suc b), pow-suc 2 b)

pub bit_entered_same : (ws : List ℕ) (n i j : ℕ) → i < n → j < n → bit_of ws (row_words n) i j ≡ true → bit_entered ws (row_words n) i j ≡ ws
bit_entered_same ws n i j hi hj e =
    let at = i * row_words n + j / 32 in
    ap (set ws at) (or_same (j % 32) (get_or ws at 0) (sym (bit_at ws (row_words n) i j (bit_in_row n i j hi hj)) ∙ e)) ∙ set-get_or ws at 0

-- cleared rows have no bit
pub cleared_at : (ws : List ℕ) (n p q : ℕ) → p < n → q < n →
    bit_of (replicate (n * row_words n) 0 ++ drop (n * row_words n) ws) (row_words n) p q ≡ false
cleared_at ws n p q hp hq =
    let r = row_words n in
    let zs = replicate (n * r) 0 in
    let k = bit_in_words n p q hp hq in
    let e : get_or (zs ++ drop (n * r) ws) (p * r + q / 32) 0 ≡ 0 =
    get_or_append_left zs (drop (n * r) ws) 0 (p * r + q / 32) (omega (arith, length-replicate {A = ℕ} (n * r) 0)) ∙ get_or-replicate (n * r) (p * r + q / 32) 0 0 k in
    bit_at (zs ++ drop (n * r) ws) r p q (bit_in_row n p q hp hq) ∙ ap (λ w. bits_of w (q % 32)) e ∙ bits_of_none (q % 32)
