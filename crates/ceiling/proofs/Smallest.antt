-- The smallest of the numbers that a set's marks have.
use Rattle.std.proofs.Common.{◌≡◌, ℕ, ◌<◌, ◌≤◌, true, Some, None, Option, refl, ◌∙◌, arith}
use Rattle.std.proofs.lemmas.Bool.Decides.{nat_tests}
use Rattle.std.proofs.lemmas.Bool.{and_parts}
use Rattle.plex.specs.Sets.{Set, card, only, ◌∖◌, Within}
use Rattle.plex.specs.Least.{Least, least}
use Rattle.plex.proofs.Count.{card_none, card_less}
use Rattle.plex.proofs.Least.{least_is}
use Rattle.ceiling.specs.Formulas.{number_at, smallest, smallest_of_two}
use Rattle.ceiling.specs.Laws.{Smallest, SmallestOfTwo}

of_least : (n : ℕ) (s : Set) (f : ℕ → ℕ) (other : ℕ) → Within n s → 0 < card n s → (o : Option ℕ) → Least n s f o → Smallest s f (number_at f o other)
of_least n s f other w some None l = absurd (omega (arith, card_none n s l))
of_least n s f other w some (Some u) l = record { below = λ v t. l.2 v (w v t) t; reached = (u, l.1, refl) }

pub smallest_is : (n : ℕ) (s : Set) (f : ℕ → ℕ) (other : ℕ) → Within n s → 0 < card n s → Smallest s f (smallest n s f other)
smallest_is n s f other w some = of_least n s f other w some (least n s f) (least_is n s f)

of_none : (n : ℕ) (s : Set) (f : ℕ → ℕ) (other : ℕ) → card n s ≡ 0 → (o : Option ℕ) → Least n s f o → number_at f o other ≡ other
of_none n s f other e None l = refl
of_none n s f other e (Some u) l = absurd (omega (arith, card_less n s u l.0 l.1))

pub smallest_none : (n : ℕ) (s : Set) (f : ℕ → ℕ) (other : ℕ) → card n s ≡ 0 → smallest n s f other ≡ other
smallest_none n s f other e = of_none n s f other e (least n s f) (least_is n s f)

pub smallest_unique : (s : Set) (f : ℕ → ℕ) (l m : ℕ) → Smallest s f l → Smallest s f m → l ≡ m
smallest_unique s f l m p q =
    omega (arith, p.below q.reached.0 q.reached.1, q.below p.reached.0 p.reached.1, p.reached.2, q.reached.2)

other_than : (s : Set) (u v : ℕ) → s v ≡ true → (u ≡ v → ⊥) → (s ∖ only u) v ≡ true
other_than s u v t d = grind (arith, nat_tests)

not_u : (s : Set) (u v : ℕ) → (s ∖ only u) v ≡ true → u ≡ v → ⊥
not_u s u v t e = grind (arith, nat_tests)

module _ (n : ℕ) (s : Set) (f : ℕ → ℕ → ℕ) (other : ℕ) (w : Within n s) where
  abbrev inner : ℕ → ℕ
  inner u = smallest n (s ∖ only u) (f u) other

  inner_is : 1 < card n s → (u : ℕ) → s u ≡ true → Smallest (s ∖ only u) (f u) (inner u)
  inner_is two u t =
      smallest_is n (s ∖ only u) (f u) other (λ i e. w i (and_parts (s i) _ e).0) (omega (arith, card_less n s u (w u t) t))

  pub two_is : 1 < card n s → SmallestOfTwo s f (smallest_of_two n s f other)
  two_is two =
      let outer = smallest_is n s inner other w (omega arith) in
      let u = outer.reached.0 in
      let here = inner_is two u outer.reached.1 in
      let v = here.reached.0 in record {
        below = λ x y t e d. omega (arith, outer.below x t, (inner_is two x t).below y (other_than s x y e d));
        reached =
            (u, v, outer.reached.1, (and_parts (s v) _ here.reached.1).0, not_u s u v here.reached.1, outer.reached.2 ∙ here.reached.2);
      }

  pub two_none : card n s ≤ 1 → smallest_of_two n s f other ≡ other
  two_none few =
      of_few (least n s inner) (least_is n s inner)
    where
      of_few : (o : Option ℕ) → Least n s inner o → number_at inner o other ≡ other
      of_few None l = refl
      of_few (Some u) l = smallest_none n (s ∖ only u) (f u) other (omega (arith, card_less n s u l.0 l.1))

pub two_unique : (s : Set) (f : ℕ → ℕ → ℕ) (l m : ℕ) → SmallestOfTwo s f l → SmallestOfTwo s f m → l ≡ m
two_unique s f l m p q =
    let a = p.reached in
    let b = q.reached in
    omega (arith, p.below b.0 b.1 b.2 b.3 b.4, q.below a.0 a.1 a.2 a.3 a.4, a.5, b.5)
