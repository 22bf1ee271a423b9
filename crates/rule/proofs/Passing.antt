-- A pass over the marks of a set, the lowest that is left at each turn: what is known of the marks that were passed.
use Rattle.std.proofs.Common.{◌≡◌, ℕ, ◌≤◌, min, true, false, ◌⊎◌, sym, refl, ap, ◌∙◌, subst, inl, inr, arith}
use Rattle.std.proofs.lemmas.Bool.Decides.{nat_tests}
use Rattle.std.proofs.lemmas.Bool.{cases_lt, cases_eq, cases_Bool, both_ways, and_parts}
use Rattle.plex.specs.Sets.{Set, none, only, ◌∖◌, ◌⊆◌}
use Rattle.rule.specs.Passes.{Lowered}

-- P holds of the marks of s that are not among the rest
abbrev pub Passed : (ℕ → Type 0) → Set → Set → Type 0
Passed P s rest = (u : ℕ) → s u ≡ true → rest u ≡ false → P u

-- not among the rest without u: u, or another mark that is not among the rest
out_of_rest : (rest : Set) (u v : ℕ) → (rest ∖ only u) v ≡ false → ((rest v ≡ false) × (v ≡ u → ⊥)) ⊎ (v ≡ u)
out_of_rest rest u v e =
    elim (cases_eq v u) [
      | inl h ↦ inr h
      | inr h ↦ inl ((elim (cases_Bool (rest v)) [ inl t ↦ (let z : ⊥ = grind (arith, nat_tests) in absurd z) | inr f ↦ f ]), h)
    ]

-- nothing is passed yet
pub all_left : (s rest : Set) → rest ≡ s → rest ⊆ s
all_left s rest e i t = sym (ap (λ r. r i) e) ∙ t

-- what is left of a part is a part
pub left_part : (s rest rest' : Set) (u : ℕ) → rest' ≡ rest ∖ only u → rest ⊆ s → rest' ⊆ s
left_part s rest rest' u e h i t = h i (and_parts (rest i) _ (sym (ap (λ r. r i) e) ∙ t)).0

pub passed_none : (P : ℕ → Type 0) (s : Set) → Passed P s s
passed_none P s u t f = absurd (both_ways (s u) f t)

pub passed_nothing : (P : ℕ → Type 0) (s rest : Set) → rest ≡ s → Passed P s rest
passed_nothing P s rest e u t f = absurd (both_ways (rest u) f (ap (λ r. r u) e ∙ t))

-- u is passed; what is known of the others may be said anew
pub passed_changes : (P Q : ℕ → Type 0) (s rest rest' : Set) (u : ℕ) → rest' ≡ rest ∖ only u → Q u → ((v : ℕ) → (v ≡ u → ⊥) → P v → Q v) → Passed P s rest → Passed Q s rest'
passed_changes P Q s rest rest' u e p f h v t g =
    elim (out_of_rest rest u v (sym (ap (λ r. r v) e) ∙ g)) [ inl o ↦ f v o.1 (h v t o.0) | inr o ↦ subst Q (sym o) p ]

pub passed_more : (P : ℕ → Type 0) (s rest rest' : Set) (u : ℕ) → rest' ≡ rest ∖ only u → P u → Passed P s rest → Passed P s rest'
passed_more P s rest rest' u e p h = passed_changes P P s rest rest' u e p (λ v _ q. q) h

pub passed_all : (P : ℕ → Type 0) (s rest : Set) → rest ≡ none → Passed P s rest → (u : ℕ) → s u ≡ true → P u
passed_all P s rest e h u t = h u t (ap (λ r. r u) e)

-- the smallest so far of the numbers of the marks that were passed
pub record LowestSoFar (s rest : Set) (f : ℕ → ℕ) (start m : ℕ) : Type 0 where
  pub from : m ≤ start
  pub below : Passed (λ u. m ≤ f u) s rest
  pub reached : (m ≡ start) ⊎ ((u : ℕ) × (s u ≡ true) × (m ≡ f u))

pub lowest_none : (s rest : Set) (f : ℕ → ℕ) (start : ℕ) → rest ≡ s → LowestSoFar s rest f start start
lowest_none s rest f start e = record { from = omega arith; below = passed_nothing (λ u. start ≤ f u) s rest e; reached = inl refl }

-- u is passed, and the smallest lowered to its number
pub lowest_more : (s rest rest' : Set) (f : ℕ → ℕ) (start m u m' : ℕ) → s u ≡ true → rest' ≡ rest ∖ only u → m' ≡ min m (f u) → LowestSoFar s rest f start m → LowestSoFar s rest' f start m'
lowest_more s rest rest' f start m u m' t e eq h = record {
  from = omega (arith, h.from);
  below = passed_more (λ v. m' ≤ f v) s rest rest' u e (omega arith) (λ v tv r. omega (arith, h.below v tv r));
  reached =
      elim (cases_lt (f u) m) [
        | inl l ↦ inr (u, t, omega arith)
        | inr l ↦ (elim h.reached [ inl x ↦ inl (omega arith) | inr x ↦ inr (x.0, x.1, omega (arith, x.2)) ])
      ];
}

pub lowest_all : (s rest : Set) (f : ℕ → ℕ) (start m : ℕ) → rest ≡ none → LowestSoFar s rest f start m → Lowered s f start m
lowest_all s rest f start m e h = record { from = h.from; below = passed_all (λ u. m ≤ f u) s rest e h.below; reached = h.reached }
