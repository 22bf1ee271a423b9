-- The test for a k-plex says what it is to say.
use Rattle.std.proofs.Common.{◌≡◌, ℕ, zero, suc, ◌+◌, ◌<◌, true, not, ◌||◌, leb, Decides, refl, ap, ◌∙◌, inl, inr, arith}
use Rattle.std.proofs.lemmas.Bool.Decides.{nat_tests}
use Rattle.std.proofs.lemmas.Bool.{cases_eq, leb-true, and_parts, and_from}
use Rattle.plex.specs.Sets.{Set, Agreement, card, ◌∩◌, Kplex, Within, all_below, is_kplex}

pub all_from : (n : ℕ) (p : Set) → all_below n p ≡ true → (i : ℕ) → i < n → p i ≡ true
unfolding all_below
all_from zero p h i l = let z : ⊥ = omega arith in absurd z
all_from (suc n) p h i l =
    let both = and_parts (p n) (all_below n p) h in
    elim (cases_eq i n) [ inl e ↦ ap p e ∙ both.0 | inr e ↦ all_from n p both.1 i (omega arith) ]

pub all_to : (n : ℕ) (p : Set) → ((i : ℕ) → i < n → p i ≡ true) → all_below n p ≡ true
unfolding all_below
all_to zero p h = refl
all_to (suc n) p h = and_from (p n) (all_below n p) (h n (omega arith)) (all_to n p (λ i l. h i (omega arith)))

pub kplex_decides : (n k : ℕ) (a : Agreement) (s : Set) → Within n s → Decides (is_kplex n k a s) (Kplex n k a s)
kplex_decides n k a s w = (
  (λ e i t. let z = all_from n (λ i. not (s i) || leb (card n s) (k + card n (s ∩ a i))) e i (w i t) in
      (w i t, leb-true (card n s) (k + card n (s ∩ a i)) (grind arith))),
  (λ q. all_to n (λ i. not (s i) || leb (card n s) (k + card n (s ∩ a i))) (λ i l. let z = q i in grind (arith, nat_tests))),
)
