-- The mark of a set whose number is least, picked from the marks as they come, by what a closure answers of each.
use Rattle.std.proofs.Common.{◌≡◌, ℕ, ◌<◌, ◌≤◌, List, [], ◌∷◌, Some, None, Option, true, false, ◌⊎◌, sym, refl, ap, ◌∙◌, subst, inl, inr, arith}
use Rattle.std.proofs.lemmas.Bool.Decides.{nat_tests}
use Rattle.std.proofs.lemmas.Bool.{cases_eq, both_ways, and_parts}
use Rattle.std.specs.declared.cmp.Ordering.{Ordering}
use Rattle.std.specs.declared.cmp.Ordering.TheVariants.{Less, Equal, Greater}
use Rattle.std.specs.Ordering.{nat_cmp, min_by_ordering, is_gt}
use Rattle.std.specs.Fn.{CalledAt}
use Rattle.std.specs.List.{FoldsTo}
use Rattle.std.specs.Iterator.{Drains, KeyTurn, PicksMinByKey}
use Rattle.std.proofs.lemmas.Map.Keys.{le_from_not_gt}
use denote.Param.Members.{Mut}
use denote.Ref.{Bor}
use Rattle.plex.specs.Sets.{Set, none, only, ◌∖◌, ◌⊆◌}
use Rattle.plex.specs.Least.{Least}
use Rattle.marks.specs.declared.set.iter.Rising.{Rising}
use Rattle.marks.specs.Members.{members}
use Rattle.marks.specs.Rising.{Gives}

-- u has the least number of the marks of s that are not among the rest, and no mark of s below it has so small a number
record LeastSoFar (s rest : Set) (f : ℕ → ℕ) (u : ℕ) : Type 0 where
  small : u < 128
  inside : s u ≡ true
  left : rest ⊆ s
  least : (v : ℕ) → s v ≡ true → rest v ≡ false → f u ≤ f v
  lowest : (i : ℕ) → i < u → s i ≡ true → f u < f i

-- the first mark of all
least_first : (s rest : Set) (f : ℕ → ℕ) (u : ℕ) → rest ≡ s ∖ only u → u < 128 → s u ≡ true → ((i : ℕ) → i < u → s i ≡ false) → LeastSoFar s rest f u
least_first s rest f u e l t b = record {
  small = l;
  inside = t;
  left = λ i r. let z = ap (λ q. q i) e in grind arith;
  least = λ v x r. elim (cases_eq v u) [
    | inl p ↦ omega (arith, ap f p)
    | inr p ↦ (let z = sym (ap (λ q. q v) e) ∙ r in let y : ⊥ = grind (arith, nat_tests) in absurd y)
  ];
  lowest = λ i m x. absurd (both_ways (s i) (b i m) x);
}

module _ (s rest rest' : Set) (f : ℕ → ℕ) (u v : ℕ) (e : rest' ≡ rest ∖ only v) (h : LeastSoFar s rest f u) where
  -- a mark that is no longer among the rest: v, or one that was not among them before
  passed : (w : ℕ) → rest' w ≡ false → (rest w ≡ false) ⊎ (w ≡ v)
  passed w r =
      let z = sym (ap (λ q. q w) e) ∙ r in
      elim (cases_eq w v) [ inl p ↦ inr p | inr p ↦ inl (grind (arith, nat_tests)) ]

  still : rest' ⊆ s
  still i t = h.left i (and_parts (rest i) _ (sym (ap (λ r. r i) e) ∙ t)).0

  -- v is no better
  least_kept : f u ≤ f v → LeastSoFar s rest' f u
  least_kept l = record {
    small = h.small;
    inside = h.inside;
    left = still;
    least = λ w t r. elim (passed w r) [ inl x ↦ h.least w t x | inr x ↦ omega (arith, ap f x) ];
    lowest = h.lowest;
  }

  -- v is taken: the marks below it came before
  least_taken : f v < f u → v < 128 → rest v ≡ true → ((i : ℕ) → i < v → rest i ≡ false) → LeastSoFar s rest' f v
  least_taken l m t b = record {
    small = m;
    inside = h.left v t;
    left = still;
    least = λ w y r. elim (passed w r) [ inl x ↦ omega (arith, h.least w y x) | inr x ↦ omega (arith, ap f x) ];
    lowest = λ i y z. omega (arith, h.least i z (b i y));
  }

least_all : (s rest : Set) (f : ℕ → ℕ) (u : ℕ) → rest ≡ none → LeastSoFar s rest f u → Least 128 s f (Some u)
least_all s rest f u e h = (h.small, h.inside, (λ i _ t. h.least i t (ap (λ r. r i) e)), h.lowest)

greater : (a b : ℕ) → nat_cmp a b ≡ Greater → b < a
greater a b e = grind (arith, nat_tests)

not_greater : (a b : ℕ) (o : Ordering) → is_gt o ≡ false → nat_cmp a b ≡ o → a ≤ b
not_greater a b o n e = le_from_not_gt a b (ap is_gt e ∙ n)

module _ {F : Type 0} {g : Mut F (Bor ℕ × Unit {0}) ℕ} {f : F} (number : ℕ → ℕ) (answers : (x k : ℕ) (f' : F) → CalledAt g f x k f' → (f' ≡ f) × (k ≡ number x)) where
  abbrev Turn : (F × ℕ) × ℕ → ℕ → (F × ℕ) × ℕ → Type 0
  Turn = KeyTurn min_by_ordering min_by_ordering g nat_cmp

  module _ (s : Set) where
    -- the closure, a number and its mark, which is the least so far
    abbrev Kept : Rising → (F × ℕ) × ℕ → Type 0
    Kept r p = (p.0.0 ≡ f) × (p.0.1 ≡ number p.1) × LeastSoFar s (members r.rest) number p.1

    kept_on : (r r' : Rising) (x : ℕ) (p q : (F × ℕ) × ℕ) → Gives r (Some x) r' → Kept r p → Turn p x q → Kept r' q
    kept_on r r' x p q came kept (k, o, called, c, m, e) = by o c m e
      where
        answer : (q.0.0 ≡ f) × (k ≡ number x)
        answer = answers x k q.0.0 (subst (λ h. CalledAt g h x k q.0.0) kept.0 called)

        now : (u : ℕ) → q.0.1 ≡ number u → q.1 ≡ u → LeastSoFar s (members r'.rest) number u → Kept r' q
        now u n is h = (answer.0, n ∙ ap number (sym is), subst (LeastSoFar s (members r'.rest) number) (sym is) h)

        same : p.0.1 ≤ k → LeastSoFar s (members r'.rest) number p.1
        same l = least_kept s (members r.rest) (members r'.rest) number p.1 x came.2 kept.2 (omega (arith, kept.1, answer.1))

        by : (o : Ordering) → nat_cmp p.0.1 k ≡ o → q.0.1 ≡ min_by_ordering o p.0.1 k → q.1 ≡ min_by_ordering o p.1 x → Kept r' q
        by Less c m e = now p.1 (m ∙ kept.1) e (same (not_greater p.0.1 k Less refl c))
        by Equal c m e = now p.1 (m ∙ kept.1) e (same (not_greater p.0.1 k Equal refl c))
        by Greater c m e =
            now x (m ∙ answer.1) e
            (least_taken s (members r.rest) (members r'.rest) number p.1 x came.2 kept.2 (omega (arith, kept.1, answer.1, greater p.0.1 k c)) came.1.0 came.1.1 came.1.2)

    kept_all : (r : Rising) (xs : List ℕ) (p q : (F × ℕ) × ℕ) → Drains Gives r xs → FoldsTo Turn p xs q → Kept r p → Least 128 s number (Some q.1)
    kept_all r [] p q (u, (t, here, end)) last kept =
        subst (λ w. Least 128 s number (Some w)) (ap (λ (p : (F × ℕ) × ℕ). p.1) last)
        (least_all s (members r.rest) number p.1 (ap (λ r. members r.rest) here ∙ end.1) kept.2)
    kept_all r (x ∷ xs) p q (u, (t, (r', came, more), end)) (p', turn, turns) kept =
        kept_all r' xs p' q (u, (t, more, end)) turns (kept_on r r' x p p' came kept turn)

  -- what `set.rising().min_by_key(..)` picks
  pub least_picked : (r : Rising) (o : Option ℕ) → PicksMinByKey Gives g nat_cmp r f o → Least 128 (members r.rest) number o
  least_picked r None (u, (t, here, end)) = λ i _. ap (λ q. q i) (ap (λ r. members r.rest) here ∙ end.1)
  least_picked r (Some y) (x, xs, k, f', q, (u, (t, (r', came, more), end)), called, turns) =
      let s = members r.rest in
      let answer = answers x k f' called in
      kept_all s r' xs ((f', k), x) (q, y) (u, (t, more, end)) turns (
        answer.0,
        answer.1,
        least_first s (members r'.rest) number x came.2 came.1.0 came.1.1 came.1.2,
      )
