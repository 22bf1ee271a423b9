-- Rows of bits: what one row put in the place of another leaves, and what the rows say past the last mark.
use Rattle.std.proofs.Common.{◌≡◌, ℕ, suc, ◌+◌, ◌%◌, ◌<◌, ◌≤◌, Bool, false, not, ◌&&◌, ◌||◌, eqb, ltb, leb, List, [], ◌∷◌, length, get_or, set, replicate, sym, refl, ap, ◌∙◌, ap₂, inl, inr, arith, length-set}
use mathlib.Core.Path.{fun_ext}
use lib.ListN.{length-replicate}
use Rattle.std.specs.List.{AllByRecursion}
use Rattle.std.proofs.lemmas.List.{get_or-set_same, get_or-set_other, get_or_past, get_or-replicate}
use Rattle.std.proofs.lemmas.Bool.{cases_eq, cases_lt}
use Rattle.std.proofs.lemmas.Bool.Decides.{nat_tests}
use Rattle.plex.specs.Sets.{Agreement, none, only, struck, is_pair, ◌∖◌}
use Rattle.plex.specs.Words.{holds, Words}
use Rattle.plex.proofs.Pack.{words_ext}
use Rattle.plex.proofs.Words.{bits_of_none}
use Rattle.marks.proofs.First.{zeros_none}
use Rattle.tables.specs.Bits.{bit_agrees}

-- one row put in the place of another
pub row_put : (rows : List (List ℕ)) (i : ℕ) (ws : List ℕ) (r : Agreement) → i < length rows → holds ws ≡ r i →
    ((p : ℕ) → (p ≡ i → ⊥) → bit_agrees rows p ≡ r p) → bit_agrees (set rows i ws) ≡ r
row_put rows i ws r l h k =
    fun_ext (λ p.
    elim (cases_eq p i) [
      | inl e ↦ ap (λ q. holds (get_or (set rows i ws) q [])) e ∙ ap holds (get_or-set_same rows i ws [] l) ∙ h ∙ ap r (sym e)
      | inr e ↦ ap holds (get_or-set_other rows i p ws [] e) ∙ k p e
    ])

-- an agreement as it is left where only mark v is taken out of row u
abbrev pub without_bit : ℕ → ℕ → Agreement → Agreement
without_bit u v agrees i j = agrees i j && not (eqb i u && eqb j v)

pub bit_gone : (rows : List (List ℕ)) (i j : ℕ) (ws : List ℕ) → i < length rows → holds ws ≡ holds (get_or rows i []) ∖ only j →
    bit_agrees (set rows i ws) ≡ without_bit i j (bit_agrees rows)
bit_gone rows i j ws l h =
    row_put rows i ws (without_bit i j (bit_agrees rows)) l
    (h ∙ fun_ext (λ q. here (bit_agrees rows i q) i (eqb q j)))
    (λ p e. fun_ext (λ q. there (bit_agrees rows p q) p (eqb q j) e))
  where
    here : (a : Bool) (p : ℕ) (b : Bool) → (a && not b) ≡ (a && not (eqb p p && b))
    here a p b = grind (arith, nat_tests)

    there : (a : Bool) (p : ℕ) (b : Bool) → (p ≡ i → ⊥) → a ≡ (a && not (eqb p i && b))
    there a p b e = grind (arith, nat_tests)

-- both bits of a pair
pub both_gone : (rows : List (List ℕ)) (i j : ℕ) (us vs : List ℕ) → i < length rows → j < length rows →
    holds us ≡ holds (get_or rows i []) ∖ only j → holds vs ≡ holds (get_or (set rows i us) j []) ∖ only i →
    bit_agrees (set (set rows i us) j vs) ≡ struck i j (bit_agrees rows)
both_gone rows i j us vs l m h k =
    bit_gone (set rows i us) j i vs (simp length-set m) k
    ∙ ap (without_bit j i) (bit_gone rows i j us l h)
    ∙ fun_ext (λ p. fun_ext (λ q. bits (bit_agrees rows p q) (eqb p i) (eqb q j) (eqb p j) (eqb q i)))
  where
    bits : (a b c d e : Bool) → ((a && not (b && c)) && not (d && e)) ≡ (a && not ((b && c) || (d && e)))
    bits a b c d e = grind arith

-- a struck agreement is still one that a sheet can have
pub struck_symmetric : (r : Agreement) (u v : ℕ) → ((i j : ℕ) → r i j ≡ r j i) → (i j : ℕ) → struck u v r i j ≡ struck u v r j i
struck_symmetric r u v s i j = ap₂ ◌&&◌ (s i j) (ap not (swap (eqb i u) (eqb j v) (eqb i v) (eqb j u)))
  where
    swap : (a b c d : Bool) → ((a && b) || (c && d)) ≡ ((d && c) || (b && a))
    swap a b c d = grind arith

pub struck_irreflexive : (r : Agreement) (u v : ℕ) → ((i : ℕ) → r i i ≡ false) → (i : ℕ) → struck u v r i i ≡ false
struck_irreflexive r u v s i = ap (λ b. b && not (is_pair u v i i)) (s i)

pub struck_inside : (r : Agreement) (n u v : ℕ) → ((i j : ℕ) → (leb n i && r i j) ≡ false) → (i j : ℕ) → (leb n i && struck u v r i j) ≡ false
struck_inside r n u v s i j = still (leb n i) (r i j) (is_pair u v i j) (s i j)
  where
    still : (a b c : Bool) → (a && b) ≡ false → (a && (b && not c)) ≡ false
    still a b c h = grind arith

-- the agreements of the first n marks
abbrev pub rows_below : ℕ → Agreement → Agreement
rows_below n r i j = ltb i n && r i j

pub rows_below_none : (m : ℕ) (r : Agreement) → bit_agrees (replicate m (0 ∷ 0 ∷ 0 ∷ 0 ∷ [])) ≡ rows_below 0 r
rows_below_none m r = fun_ext (λ p. blank p ∙ fun_ext (λ q. nothing p (r p q)))
  where
    blank : (p : ℕ) → holds (get_or (replicate m (0 ∷ 0 ∷ 0 ∷ 0 ∷ [])) p []) ≡ none
    blank p =
        elim (cases_lt p m) [
          | inl h ↦ ap holds (get_or-replicate m p (0 ∷ 0 ∷ 0 ∷ 0 ∷ []) [] h) ∙ zeros_none
          | inr h ↦
              ap holds (get_or_past (replicate m (0 ∷ 0 ∷ 0 ∷ 0 ∷ [])) p [] (simp length-replicate h)) ∙ fun_ext (λ q. bits_of_none (q % 32))
        ]

    nothing : (p : ℕ) (b : Bool) → false ≡ (ltb p 0 && b)
    nothing p b = grind (arith, nat_tests)

pub rows_below_more : (rows : List (List ℕ)) (r : Agreement) (i : ℕ) (ws : List ℕ) → i < length rows → bit_agrees rows ≡ rows_below i r → holds ws ≡ r i →
    bit_agrees (set rows i ws) ≡ rows_below (i + 1) r
rows_below_more rows r i ws l h e =
    row_put rows i ws (rows_below (i + 1) r) l
    (e ∙ fun_ext (λ q. here (r i q)))
    (λ p d. ap (λ s. s p) h ∙ fun_ext (λ q. there p d (r p q)))
  where
    here : (b : Bool) → b ≡ (ltb i (i + 1) && b)
    here b = grind (arith, nat_tests)

    there : (p : ℕ) → (p ≡ i → ⊥) → (b : Bool) → (ltb p i && b) ≡ (ltb p (i + 1) && b)
    there p d b = grind (arith, nat_tests)

pub rows_below_all : (r : Agreement) (n i : ℕ) → n ≤ i → ((i j : ℕ) → n ≤ i → r i j ≡ false) → rows_below i r ≡ r
rows_below_all r n i l h = fun_ext (λ p. fun_ext (λ q. all p (r p q) (λ k. h p q k)))
  where
    all : (p : ℕ) (b : Bool) → (n ≤ p → b ≡ false) → (ltb p i && b) ≡ b
    all p b k = grind (arith, nat_tests)

-- nothing agrees from n on, as a test
pub inside_test : (n i : ℕ) (b : Bool) → (n ≤ i → b ≡ false) → (leb n i && b) ≡ false
inside_test n i b h = grind (arith, nat_tests)

-- rows are determined by the marks that they hold
pub rows_ext : (s t : List (List ℕ)) → length s ≡ length t → AllByRecursion (λ ws. (length ws ≡ 4) × Words ws) s → AllByRecursion (λ ws. (length ws ≡ 4) × Words ws) t →
    ((i j : ℕ) → bit_agrees s i j ≡ bit_agrees t i j) → s ≡ t
rows_ext [] [] l a b h = refl
rows_ext [] (v ∷ vs) l a b h = absurd (omega arith)
rows_ext (u ∷ us) [] l a b h = absurd (omega arith)
rows_ext (u ∷ us) (v ∷ vs) l a b h =
    ap₂ ◌∷◌ (words_ext u v (a.0.0 ∙ sym b.0.0) a.0.1 b.0.1 (h 0))
    (rows_ext us vs (omega arith) a.1 b.1 (λ i. h (suc i)))
