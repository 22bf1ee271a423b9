-- What begun and entered words say of agreement.
use Rattle.std.proofs.Common.{◌≡◌, ℕ, ◌+◌, ◌*◌, ◌/◌, ◌<◌, ◌≤◌, Bool, true, false, ◌&&◌, ◌||◌, eqb, ltb, List, ◌++◌, length, get_or, drop, replicate, ap, ◌∙◌, arith, length-append, length-drop, length-set}
use lib.ListN.{length-replicate}
use Rattle.std.proofs.lemmas.Bool.Decides.{nat_tests}
use Rattle.std.proofs.lemmas.List.{get_or-set_other}
use Rattle.plex.specs.Sets.{Agreement, is_pair}
use Rattle.plex.specs.Meaning.{agree_by}
use Rattle.sheet.specs.Rows.{row_words, bit_of, bit_entered, both_bits}
use Rattle.sheet.specs.Entering.{entered}
use Rattle.sheet.proofs.Bits.{bit_in_row, bit_in_words, bit_entered_at, bit_entered_same, bit_entered_spare, cleared_at}

-- a relation that holds between no two marks gives no agreement
pub agree_none : (n : ℕ) (r : Agreement) (i j : ℕ) → ((p q : ℕ) → p < n → q < n → r p q ≡ false) → agree_by n r i j ≡ false
agree_none n r i j h = let a = h i j in let b = h j i in grind (arith, nat_tests)

-- two relations that are the same between marks give the same agreement
pub agree_same : (n : ℕ) (r s : Agreement) (i j : ℕ) → ((p q : ℕ) → p < n → q < n → r p q ≡ s p q) → agree_by n r i j ≡ agree_by n s i j
agree_same n r s i j h = let a = h i j in let b = h j i in grind (arith, nat_tests)

-- a relation with one pair more
agree_more : (n : ℕ) (r s : Agreement) (u v i j : ℕ) → u < n → v < n → (u ≡ v → ⊥) →
    ((p q : ℕ) → p < n → q < n → s p q ≡ (r p q || is_pair u v p q)) → agree_by n s i j ≡ (agree_by n r i j || is_pair u v i j)
agree_more n r s u v i j hu hv d h = let a = h i j in let b = h j i in grind (arith, nat_tests)

-- among the marks of a begun entry none agree
pub begun_nothing : (ws ws' : List ℕ) (n : ℕ) → ws' ≡ replicate (n * row_words n) 0 ++ drop (n * row_words n) ws → (i j : ℕ) → entered ws' n i j ≡ false
begun_nothing ws ws' n cleared i j =
    agree_none n (both_bits ws' (row_words n)) i j (λ p q hp hq.
    ap (λ b. b && bit_of ws' (row_words n) q p) (ap (λ xs. bit_of xs (row_words n) p q) cleared ∙ cleared_at ws n p q hp hq))

-- both bits of a pair
both_entered : (x y x' y' : Bool) (i j p q : ℕ) → x' ≡ ((x || (eqb p i && eqb q j)) || (eqb p j && eqb q i)) →
    y' ≡ ((y || (eqb q i && eqb p j)) || (eqb q j && eqb p i)) → (x' && y') ≡ ((x && y) || is_pair i j p q)
both_entered x y x' y' i j p q e f = grind (arith, nat_tests)

module _ (ws : List ℕ) (n i j : ℕ) (hi : i < n) (hj : j < n) (room : n * row_words n ≤ length ws) where
  twice : (p q : ℕ) → p < n → q < n →
      bit_of (bit_entered (bit_entered ws (row_words n) i j) (row_words n) j i) (row_words n) p q
      ≡ ((bit_of ws (row_words n) p q || (eqb p i && eqb q j)) || (eqb p j && eqb q i))
  twice p q hp hq =
      let r = row_words n in
      let ws₁ = bit_entered ws r i j in
      let room₁ : n * r ≤ length ws₁ = simp length-set room in
      bit_entered_at ws₁ n j i hj hi room₁ p q (bit_in_row n p q hp hq) ∙ ap (λ b. b || (eqb p j && eqb q i)) (bit_entered_at ws n i j hi hj room p q (bit_in_row n p q hp hq))

  pub both_bits_entered : (p q : ℕ) → p < n → q < n →
      both_bits (bit_entered (bit_entered ws (row_words n) i j) (row_words n) j i) (row_words n) p q ≡ (both_bits ws (row_words n) p q || is_pair i j p q)
  both_bits_entered p q hp hq =
      both_entered (bit_of ws (row_words n) p q) (bit_of ws (row_words n) q p) _ _ i j p q (twice p q hp hq) (twice q p hq hp)

-- an entered pair agrees, and all else is as it was
module _ (ws : List ℕ) (n i j : ℕ) (hi : i < n) (hj : j < n) (apart : i ≡ j → ⊥) (room : n * row_words n ≤ length ws)
    (ws' : List ℕ) (is : ws' ≡ bit_entered (bit_entered ws (row_words n) i j) (row_words n) j i) where
  pub entered_pair : (p q : ℕ) → entered ws' n p q ≡ (entered ws n p q || is_pair i j p q)
  entered_pair p q =
      let r = row_words n in
      agree_more n (both_bits ws r) (both_bits ws' r) i j p q hi hj apart (λ a b ha hb.
      ap (λ xs. both_bits xs r a b) is ∙ both_bits_entered ws n i j hi hj room a b ha hb)

  -- a pair that was there already
  pub entered_again : entered ws n i j ≡ true → ws' ≡ ws
  entered_again e =
      let r = row_words n in
      let both = agreed n i j (bit_of ws r i j) (bit_of ws r j i) e in
      let one = bit_entered_same ws n i j hi hj both.0 in
      is ∙ ap (λ xs. bit_entered xs r j i) one ∙ bit_entered_same ws n j i hj hi both.1
    where
      agreed : (n i j : ℕ) (x y : Bool) → ((ltb i n && ltb j n) && ((ltb i j && (x && y)) || (ltb j i && (y && x)))) ≡ true → (x ≡ true) × (y ≡ true)
      agreed n i j x y h = (grind arith, grind arith)

  -- the words behind the rows
  pub entered_behind : (p : ℕ) → n * row_words n ≤ p → get_or ws' p 0 ≡ get_or ws p 0
  entered_behind p h =
      let r = row_words n in
      let one = bit_in_words n i j hi hj in
      let two = bit_in_words n j i hj hi in
      ap (λ xs. get_or xs p 0) is
      ∙ get_or-set_other (bit_entered ws r i j) (j * r + i / 32) p _ 0 (λ e. omega arith)
      ∙ get_or-set_other ws (i * r + j / 32) p _ 0 (λ e. omega arith)

  -- the bits at or above n
  pub entered_spare : (p q : ℕ) → p < n → n ≤ q → bit_of ws' (row_words n) p q ≡ bit_of ws (row_words n) p q
  entered_spare p q hp hq =
      let r = row_words n in
      let room₁ : n * r ≤ length (bit_entered ws r i j) = simp length-set room in
      ap (λ xs. bit_of xs r p q) is
      ∙ bit_entered_spare (bit_entered ws r i j) n j i hj hi room₁ p q (λ e. omega (arith, hi))
      ∙ bit_entered_spare ws n i j hi hj room p q (λ e. omega arith)
