-- Looking at all agreements, mark by mark.
use Rattle.std.proofs.Common.{◌≡◌, ℕ, ◌+◌, ◌<◌, ◌≤◌, Bool, false, not, ◌&&◌, ◌||◌, sym, ap, ◌∙◌, ap₂, inl, inr, arith}
use Rattle.std.proofs.lemmas.Bool.{cases_order, cases_lt, cases_Bool, and_left, and_from, or_parts, le-ltb}
use Rattle.plex.specs.Sets.{Set, below, ◌∖◌}
use Rattle.plex.specs.Meaning.{Meaning}
use Rattle.pruning.proofs.Keeping.{offends_both_ways}
use Rattle.coprune.specs.declared.limits.Limits.{Limits}
use Rattle.coprune.specs.Coprune.{Worn, bad, LooksAmong, Sweeps}
use Rattle.coprune.proofs.Wearing.{worn_none, worn_on}

-- the agreements whose lower mark is below i were looked at
pub record Swept (l : Limits) (i : ℕ) (was_struck : Bool) (m m' : Meaning) : Type 0 where
  pub worn : Worn l was_struck m m'
  pub fine : was_struck ≡ false → (p q : ℕ) → p < i → p < q → bad l m p q ≡ false

pub swept_none : (l : Limits) (m : Meaning) → Swept l 0 false m m
swept_none l m = record { worn = worn_none l m; fine = λ _ p q h. absurd (omega arith) }

bad_both_ways : (l : Limits) (m : Meaning) (i j : ℕ) → bad l m i j ≡ bad l m j i
bad_both_ways l m i j = ap₂ ◌&&◌ (m.symmetric i j) (offends_both_ways m.marks l.ends l.shared m.agrees i j)

module _ (l : Limits) (i : ℕ) (was : Bool) (m m' : Meaning) (so_far : Swept l i was m m') where
  -- those of one more mark were looked at
  pub swept_one : (above : Set) (r : Bool) (m'' : Meaning) → LooksAmong l i above r m' m'' → (was ≡ false → m' ≡ m) → above ≡ m'.agrees i ∖ below (i + 1) →
      Swept l (i + 1) (was || r) m m''
  swept_one above r m'' k same is = record {
    worn = worn_on l was r m m' m'' so_far.worn k.worn;
    fine = λ e p q h w.
        let both = or_parts was r e in
        elim (cases_lt p i) [
          | inl s ↦ so_far.fine both.0 p q s w
          | inr s ↦
              (let f : p ≡ i = omega arith in
              let lq : i + 1 ≤ q = omega arith in
              ap (λ x. bad l m x q) f ∙ ap (λ x. bad l x i q) (sym (same both.0)) ∙ here both.1 q lq)
        ];
  }
    where
      here : r ≡ false → (q : ℕ) → i + 1 ≤ q → bad l m' i q ≡ false
      here e q h =
          elim (cases_Bool (m'.agrees i q)) [
            | inl t ↦ k.fine e q (ap (λ s. s q) is ∙ and_from (m'.agrees i q) _ t (ap not (le-ltb q (i + 1) h)))
            | inr t ↦ and_left (m'.agrees i q) _ t
          ]

  pub swept_all : m.marks ≤ i → (was ≡ false → m' ≡ m) → Sweeps l was m m'
  swept_all h same = record { worn = so_far.worn; fine = λ e. (same e, λ p q. all e p q) }
    where
      low : was ≡ false → (p q : ℕ) → p < q → bad l m p q ≡ false
      low e p q k =
          elim (cases_lt p i) [ inl s ↦ so_far.fine e p q s k | inr s ↦ and_left (m.agrees p q) _ (m.inside p q (omega arith)) ]

      all : was ≡ false → (p q : ℕ) → bad l m p q ≡ false
      all e p q =
          elim (cases_order p q) [
            | inl f ↦ ap (bad l m p) (sym f) ∙ and_left (m.agrees p p) _ (m.irreflexive p)
            | inr f ↦ elim f [ inl k ↦ low e p q k | inr k ↦ bad_both_ways l m p q ∙ low e q p k ]
          ]
