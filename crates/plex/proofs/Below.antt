-- A set taken up to a mark: what a loop over the marks has seen of it.
use Rattle.std.proofs.Common.{◌≡◌, ℕ, ◌+◌, ◌<◌, true, false, ap, ◌∙◌, inl, inr, arith}
use mathlib.Core.Path.{fun_ext}
use Rattle.std.proofs.lemmas.Bool.{cases_eq}
use Rattle.std.proofs.lemmas.Bool.Decides.{nat_tests}
use Rattle.plex.specs.Sets.{Set, none, only, below, ◌∩◌, ◌∪◌}

pub none_below : none ≡ below 0
none_below = fun_ext (λ j. grind (arith, nat_tests))

pub one_more_below : (i : ℕ) → below i ∪ only i ≡ below (i + 1)
one_more_below i = fun_ext (λ j. grind (arith, nat_tests))

pub below_none : (s : Set) → s ∩ below 0 ≡ none
below_none s = fun_ext (λ j. grind (arith, nat_tests))

pub below_takes : (s : Set) (i : ℕ) → s i ≡ true → (s ∩ below i) ∪ only i ≡ s ∩ below (i + 1)
below_takes s i e = fun_ext (λ j. elim (cases_eq j i) [ inl h ↦ (let f = ap s h ∙ e in grind (arith, nat_tests)) | inr h ↦ grind (arith, nat_tests) ])

pub below_skips : (s : Set) (i : ℕ) → s i ≡ false → s ∩ below i ≡ s ∩ below (i + 1)
below_skips s i e = fun_ext (λ j. elim (cases_eq j i) [ inl h ↦ (let f = ap s h ∙ e in grind (arith, nat_tests)) | inr h ↦ grind (arith, nat_tests) ])

-- all marks of s are below n
pub below_all : (s : Set) (n : ℕ) → ((i : ℕ) → s i ≡ true → i < n) → s ∩ below n ≡ s
below_all s n h = fun_ext (λ j. let k = h j in grind (arith, nat_tests))
