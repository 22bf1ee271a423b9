-- What a run of words names, word by word.
use Rattle.std.proofs.Common.{◌≡◌, ℕ, ◌+◌, ◌<◌, ◌||◌, eqb, List, [], ◌∷◌, ◌++◌, length, get_or, take, refl, ap, ◌∙◌, arith}
use mathlib.Core.Path.{fun_ext}
use mathlib.Core.Bool.{or-false}
use Rattle.std.proofs.lemmas.List.{take_more}
use Rattle.std.proofs.lemmas.Bool.Decides.{nat_tests}
use Rattle.plex.specs.Sets.{Set, Agreement, none, among, ◌∪◌}
use Rattle.plex.specs.Meaning.{agree_by}
use Rattle.fileword.specs.Layout.{pair_word}
use Rattle.pairing.specs.Naming.{names, paired}

pub among_append : (xs ys : List ℕ) (i : ℕ) → among (xs ++ ys) i ≡ (among xs i || among ys i)
among_append [] ys i = refl
among_append (x ∷ xs) ys i = let e = among_append xs ys i in grind arith

-- what the first words name, with one word more
agree_or : (n : ℕ) (r s t : Agreement) (i j : ℕ) → t i j ≡ (r i j || s i j) → t j i ≡ (r j i || s j i) →
    agree_by n t i j ≡ (agree_by n r i j || agree_by n s i j)
agree_or n r s t i j e f = grind (arith, nat_tests)

pub named_more : (ws : List ℕ) (p n i : ℕ) → p < length ws →
    agree_by n (names (take (p + 1) ws)) i ≡ agree_by n (names (take p ws)) i ∪ paired n (get_or ws p 0) i
named_more ws p n i h = fun_ext (λ j. agree_or n (names (take p ws)) (λ a b. eqb (pair_word a b) w) (names (take (p + 1) ws)) i j (more i j) (more j i))
  where
    w : ℕ
    w = get_or ws p 0

    more : (a b : ℕ) → names (take (p + 1) ws) a b ≡ (names (take p ws) a b || eqb (pair_word a b) w)
    more a b =
        ap (λ xs. among xs (pair_word a b)) (take_more ws p 0 h) ∙ among_append (take p ws) (w ∷ []) (pair_word a b)
        ∙ ap (λ x. names (take p ws) a b || x) (or-false (eqb (pair_word a b) w))

pub named_none : (n i : ℕ) → agree_by n (names []) i ≡ none
named_none n i = fun_ext (λ j. grind (arith, nat_tests))

pub or_none : (s t : Set) → t ≡ none → s ∪ t ≡ s
or_none s t e = ap (λ u. s ∪ u) e ∙ fun_ext (λ j. or-false (s j))
