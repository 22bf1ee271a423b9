-- What a pass writes into a table of degrees.
use Rattle.std.proofs.Common.{◌≡◌, ℕ, ◌-◌, ◌<◌, Bool, true, false, not, ◌&&◌, eqb, List, length, set, sym, ap, ◌∙◌, inl, inr, arith}
use Rattle.std.proofs.lemmas.Bool.Decides.{nat_tests}
use Rattle.std.proofs.lemmas.List.{get_or-set_same, get_or-set_other}
use Rattle.std.proofs.lemmas.Bool.{cases_eq}
use Rattle.plex.specs.Sets.{Set, one_if, none, only, ◌∖◌}
use Rattle.rule.proofs.Passing.{Passed, passed_more}
use Rattle.first.specs.Degrees.{degree, OneLess}

-- the number of v is written, and v passed
pub written : (xs : List ℕ) (v x : ℕ) (f : ℕ → ℕ) (s rest rest' : Set) → v < length xs → rest' ≡ rest ∖ only v → x ≡ f v →
    Passed (λ u. degree xs u ≡ f u) s rest → Passed (λ u. degree (set xs v x) u ≡ f u) s rest'
written xs v x f s rest rest' l e is h =
    passed_more (λ u. degree (set xs v x) u ≡ f u) s rest rest' v e (get_or-set_same xs v x 0 l ∙ is) (λ u t r.
    elim (cases_eq u v) [
      | inl p ↦ ap (degree (set xs v x)) p ∙ get_or-set_same xs v x 0 l ∙ is ∙ ap f (sym p)
      | inr p ↦ get_or-set_other xs v u x 0 p ∙ h u t r
    ])

-- no mark was passed
pub lowered_none : (xs : List ℕ) (s rest : Set) → rest ≡ s → OneLess xs (s ∖ rest) xs
lowered_none xs s rest e u = let same = ap (λ r. r u) e in grind arith

-- a mark that was not passed has its number still
pub not_yet : (before xs : List ℕ) (s rest : Set) (v : ℕ) → rest v ≡ true → OneLess before (s ∖ rest) xs → degree xs v ≡ degree before v
not_yet before xs s rest v t h = let z = h v in grind arith

-- v is passed, and its number lowered
pub lowered_more : (before xs : List ℕ) (s rest rest' : Set) (v : ℕ) → v < length xs → s v ≡ true → rest v ≡ true → rest' ≡ rest ∖ only v →
    OneLess before (s ∖ rest) xs → OneLess before (s ∖ rest') (set xs v (degree xs v - 1))
lowered_more before xs s rest rest' v l t r e h u =
    elim (cases_eq u v) [
      | inl p ↦
          ap (degree (set xs v (degree xs v - 1))) p ∙ get_or-set_same xs v (degree xs v - 1) 0 l
          ∙ ap (λ x. x - 1) (not_yet before xs s rest v r h) ∙ sym (ap (λ i. degree before i - one_if ((s ∖ rest') i)) p ∙ one_more)
      | inr p ↦
          get_or-set_other xs v u (degree xs v - 1) 0 p ∙ h u
          ∙ ap (λ b. degree before u - one_if (s u && not b)) (sym (ap (λ q. q u) e ∙ kept (rest u) u v p))
    ]
  where
    kept : (b : Bool) (i j : ℕ) → (i ≡ j → ⊥) → (b && not (eqb i j)) ≡ b
    kept b i j d = grind (arith, nat_tests)

    gone : rest' v ≡ false
    gone = ap (λ q. q v) e ∙ grind (arith, nat_tests)

    one_more : degree before v - one_if ((s ∖ rest') v) ≡ degree before v - 1
    one_more = let z : (s v && not (rest' v)) ≡ true = (let y = gone in grind arith) in ap (λ b. degree before v - one_if b) z

-- all marks were passed
pub lowered_all : (before xs : List ℕ) (s rest : Set) → rest ≡ none → OneLess before (s ∖ rest) xs → OneLess before s xs
lowered_all before xs s rest e h u =
    let y = ap (λ q. q u) e in
    let z : (s u && not (rest u)) ≡ s u = grind arith in
    h u ∙ ap (λ b. degree before u - one_if b) z
