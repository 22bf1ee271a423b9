-- The marks of a set one by one: a test of each, and the k-plex test.
use Rattle.std.proofs.Common.{◌≡◌, ℕ, zero, suc, ◌+◌, Bool, true, false, not, ◌&&◌, ◌||◌, leb, refl, ap, ◌∙◌, arith, ap₂}
use mathlib.Core.Path.{fun_ext}
use Rattle.std.specs.List.{list_all}
use Rattle.std.proofs.Math.Bool.{and_comm}
use Rattle.std.proofs.lemmas.Bool.Decides.{nat_tests}
use Rattle.std.proofs.lemmas.List.Folds.{list_all-append}
use Rattle.plex.specs.Sets.{Set, Agreement, card, ◌∩◌, if_in, rising, all_below, is_kplex}
use Rattle.plex.proofs.Count.{card_split}
use Rattle.ceiling.specs.Formulas.{misses}

all_if_in : (test : ℕ → Bool) (b : Bool) (n : ℕ) → list_all test (if_in b n) ≡ (not b || test n)
all_if_in test true n = grind arith
all_if_in test false n = refl

all_rising : (test : ℕ → Bool) (n : ℕ) (s : Set) → list_all test (rising n s) ≡ all_below n (λ i. not (s i) || test i)
unfolding rising all_below
all_rising test zero s = refl
all_rising test (suc n) s =
    list_all-append test (rising n s) (if_in (s n) n) ∙ ap₂ ◌&&◌ (all_rising test n s) (all_if_in test (s n) n) ∙ and_comm (all_below n (λ i. not (s i) || test i)) (not (s n) || test n)

pub plex_test : (k : ℕ) (a : Agreement) (s : Set) → list_all (λ u. leb (misses 128 a s u) k) (rising 128 s) ≡ is_kplex 128 k a s
plex_test k a s =
    all_rising (λ u. leb (misses 128 a s u) k) 128 s
    ∙ ap (all_below 128) (fun_ext (λ u. ap (λ b. not (s u) || b) (moved (card 128 s) (card 128 (s ∩ a u)) (misses 128 a s u) (card_split 128 s (a u)))))
  where
    moved : (all near missed : ℕ) → all ≡ near + missed → leb missed k ≡ leb all (k + near)
    moved all near missed e = grind (arith, nat_tests)
