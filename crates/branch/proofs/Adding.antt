-- What a set misses when one mark joins it, and when it is a k-plex then.
use Rattle.std.proofs.Common.{◌≡◌, ℕ, ◌+◌, ◌<◌, ◌≤◌, true, false, not, ◌&&◌, ◌||◌, eqb, sym, ap, ◌∙◌, inl, inr, arith}
use Rattle.std.proofs.lemmas.Bool.Decides.{nat_tests}
use Rattle.std.proofs.lemmas.Bool.{cases_lt, cases_Bool, cases_eq, eqb-true}
use Rattle.plex.specs.Sets.{Set, Agreement, NoSelf, one_if, only, ◌∪◌, ◌∖◌, Kplex, Within}
use Rattle.plex.proofs.Count.{bit_le, card_ext, card_more}
use Rattle.ceiling.specs.Formulas.{misses}
use Rattle.rule.proofs.Plexes.{plex_by_misses, no_plex}
use Rattle.branch.specs.Sifting.{Borne, MissesUnder}

module _ (a : Agreement) (s : Set) (u v : ℕ) where
  -- v agrees with u, or is in s already
  same_missed : (a u v || s v) ≡ true → misses 128 a (s ∪ only v) u ≡ misses 128 a s u
  same_missed t = card_ext 128 ((s ∪ only v) ∖ a u) (s ∖ a u) (λ i _. at i)
    where
      at : (i : ℕ) → ((s i || eqb i v) && not (a u i)) ≡ (s i && not (a u i))
      at i =
          elim (cases_eq i v) [
            | inl e ↦ (let x = ap (λ j. a u j || s j) e ∙ t in grind (arith, nat_tests))
            | inr e ↦ grind (arith, nat_tests)
          ]

  one_more_missed : v < 128 → (a u v || s v) ≡ false → misses 128 a (s ∪ only v) u ≡ 1 + misses 128 a s u
  one_more_missed l f =
      card_ext 128 ((s ∪ only v) ∖ a u) ((s ∖ a u) ∪ only v) (λ i _. at i)
      ∙ card_more 128 (s ∖ a u) v l (grind arith)
    where
      at : (i : ℕ) → ((s i || eqb i v) && not (a u i)) ≡ ((s i && not (a u i)) || eqb i v)
      at i =
          elim (cases_eq i v) [
            | inl e ↦ (let x = ap (λ j. a u j || s j) e ∙ f in grind (arith, nat_tests))
            | inr e ↦ grind (arith, nat_tests)
          ]

  pub missed_with : v < 128 → misses 128 a (s ∪ only v) u ≡ misses 128 a s u + one_if (not (a u v || s v))
  missed_with l =
      elim (cases_Bool (a u v || s v)) [
        | inl t ↦ omega (arith, same_missed t, ap (λ b. one_if (not b)) t)
        | inr f ↦ omega (arith, one_more_missed l f, ap (λ b. one_if (not b)) f)
      ]

  pub one_more_at_most : v < 128 → misses 128 a (s ∪ only v) u ≤ 1 + misses 128 a s u
  one_more_at_most l = omega (arith, missed_with l, bit_le (not (a u v || s v)))

-- a mark of a k-plex misses at most k of its marks
plex_misses : (k : ℕ) (a : Agreement) (s : Set) (u : ℕ) → s u ≡ true → Kplex 128 k a s → misses 128 a s u ≤ k
plex_misses k a s u t q = elim (cases_lt k (misses 128 a s u)) [ inl l ↦ absurd (no_plex k a s u t l q) | inr l ↦ l ]

-- s with v is a k-plex just if each mark of s bears v, and v misses fewer than k of them
module _ (k : ℕ) (a : Agreement) (s : Set) (v : ℕ) (l : v < 128) where
  pub plex_from_tests : Within 128 s → Borne k a s v → MissesUnder k a s v → Kplex 128 k a (s ∪ only v)
  plex_from_tests w b m = plex_by_misses k a (s ∪ only v) at
    where
      joining : (u : ℕ) → u ≡ v → s u ≡ false → misses 128 a (s ∪ only v) u ≤ k
      joining u e f =
          omega (arith, m (ap s (sym e) ∙ f), one_more_at_most a s u v l, ap (misses 128 a s) e)

      at : (u : ℕ) → (s u || eqb u v) ≡ true → (u < 128) × (misses 128 a (s ∪ only v) u ≤ k)
      at u t =
          elim (cases_Bool (s u)) [
            | inl y ↦ (w u y, b u y)
            | inr f ↦ (let e : u ≡ v = eqb-true u v (sym (ap (λ x. x || eqb u v) f) ∙ t) in (omega arith, joining u e f))
          ]

  pub plex_bears : Kplex 128 k a (s ∪ only v) → Borne k a s v
  plex_bears q u t = plex_misses k a (s ∪ only v) u (ap (λ x. x || eqb u v) t) q

  pub plex_misses_under : NoSelf a → Kplex 128 k a (s ∪ only v) → MissesUnder k a s v
  plex_misses_under never q f =
      let itself : (s v || eqb v v) ≡ true = grind (arith, nat_tests) in
      let outside : (a v v || s v) ≡ false = ap (λ x. x || s v) (never v) ∙ f in
      omega (arith, plex_misses k a (s ∪ only v) v itself q, one_more_missed a s v v l outside)
