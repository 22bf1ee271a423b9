-- The agreement that the words of pairs give.
use Rattle.std.proofs.Common.{◌≡◌, ℕ, ◌^◌, ◌<◌, Bool, true, false, ◌&&◌, ◌||◌, eqb, ltb, List, [], ◌∷◌, sym, refl, ◌∙◌, ap₂, arith}
use Rattle.std.specs.List.{IsAnyAnswer, AllByRecursion}
use Rattle.std.proofs.lemmas.List.Elements.{contains_decides}
use Rattle.std.proofs.lemmas.Bool.Decides.{nat_tests, same_from_decides, Decides-eqb, Decides-like, Decides-by_or}
use Rattle.plex.specs.Sets.{among}
use Rattle.plex.specs.Meaning.{agree_by}
use Rattle.fileword.specs.Layout.{pair_word}
use Rattle.fileword.specs.Files.{Pair, NamesMarks, PairFile, named_in}
use Rattle.fileword.proofs.ReadBack.{pairs_back}
use Rattle.pairing.specs.Naming.{names}

-- what `contains` answers
pub among_contains : (xs : List ℕ) (x : ℕ) (r : Bool) → IsAnyAnswer (λ y t. eqb y x ≡ t) xs r → r ≡ among xs x
among_contains xs x r h =
    same_from_decides r (among xs x) (contains_decides eqb Decides-eqb xs x r h)
    (Decides-by_or (λ y. eqb x y) (λ y. y ≡ x) (λ ys. among ys x) (λ y. Decides-like (eqb x y) sym sym (Decides-eqb x y)) refl (λ _ _. refl) xs)

-- a list of pairs of marks below n names no mark with itself, and none from n on
named_marks : (n : ℕ) (ps : List Pair) (i j : ℕ) → AllByRecursion (NamesMarks n) ps → named_in ps i j ≡ true → (i < n) × (j < n) × (i ≡ j → ⊥)
named_marks n [] i j h e = absurd (absurd_bool e)
  where
    absurd_bool : false ≡ true → ⊥
    absurd_bool f = let z : ◌≡◌ {A = ℕ} 0 1 = cc in omega arith
named_marks n (p ∷ ps) i j h e = one p.a p.b (named_in ps i j) h.0.0 h.0.1 (named_marks n ps i j h.1) e
  where
    one : (a b : ℕ) (rest : Bool) → a < b → b < n → (rest ≡ true → (i < n) × (j < n) × (i ≡ j → ⊥)) →
        (((eqb a i && eqb b j) || (eqb a j && eqb b i)) || rest) ≡ true → (i < n) × (j < n) × (i ≡ j → ⊥)
    one a b true l m k e = k refl
    one a b false l m k e = (grind (arith, nat_tests), grind (arith, nat_tests), λ f. grind (arith, nat_tests))

-- the marks agree that the pairs name
pub pairs_agree : (n k : ℕ) (ps : List Pair) (ws : List ℕ) → n < 2 ^ 8 → k < 2 ^ 8 → PairFile n k ps ws → (i j : ℕ) →
    agree_by n (names ws) i j ≡ named_in ps i j
pairs_agree n k ps ws hn hk f i j =
    fits n i j (names ws i j) (names ws j i) (named_in ps i j) (named_marks n ps i j f.marks)
    (λ a b l. ap₂ (λ x y. among ws (pair_word x y)) (omega arith) (omega arith) ∙ pairs_back n k ps ws hn hk f i j a b)
    (λ a b l. ap₂ (λ x y. among ws (pair_word x y)) (omega arith) (omega arith) ∙ pairs_back n k ps ws hn hk f i j a b)
  where
    fits : (n i j : ℕ) (x y z : Bool) → (z ≡ true → (i < n) × (j < n) × (i ≡ j → ⊥)) → (i < n → j < n → i < j → x ≡ z) → (i < n → j < n → j < i → y ≡ z) →
        ((ltb i n && ltb j n) && ((ltb i j && x) || (ltb j i && y))) ≡ z
    fits n i j x y z h a b = grind (arith, nat_tests)
