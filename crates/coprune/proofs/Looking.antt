-- Looking at the agreements of a mark one by one.
use Rattle.std.proofs.Common.{◌≡◌, ℕ, Bool, true, false, not, ◌&&◌, ◌||◌, eqb, ◌⊎◌, sym, ap, ◌∙◌, inl, inr, arith}
use Rattle.std.proofs.lemmas.Bool.{cases_eq, ne_eqb, or_parts, true≢false}
use Rattle.plex.specs.Sets.{Set, none, only, ◌∖◌}
use Rattle.plex.specs.Meaning.{Meaning}
use Rattle.coprune.specs.declared.limits.Limits.{Limits}
use Rattle.coprune.specs.Coprune.{Worn, bad, Looks, LooksAmong}
use Rattle.coprune.proofs.Wearing.{worn_on}

-- those of the others that are not in the rest were looked at
pub record Looked (l : Limits) (i : ℕ) (others rest : Set) (was_struck : Bool) (m m' : Meaning) : Type 0 where
  pub worn : Worn l was_struck m m'
  pub fine : was_struck ≡ false → (j : ℕ) → others j ≡ true → (rest j ≡ true) ⊎ (bad l m i j ≡ false)

module _ (l : Limits) (i : ℕ) (others rest : Set) (was : Bool) (m m' : Meaning) (so_far : Looked l i others rest was m m') where
  -- one more was looked at
  pub looked_one : (u : ℕ) (rest' : Set) (r : Bool) (m'' : Meaning) → Looks l i u r m' m'' → (was ≡ false → m' ≡ m) → rest' ≡ rest ∖ only u →
      Looked l i others rest' (was || r) m m''
  looked_one u rest' r m'' k same is = record {
    worn = worn_on l was r m m' m'' so_far.worn k.worn;
    fine = λ e j t.
        let both = or_parts was r e in
        elim (cases_eq j u) [
          | inl f ↦ inr (ap (bad l m i) f ∙ ap (λ x. bad l x i u) (sym (same both.0)) ∙ sym k.said ∙ both.1)
          | inr f ↦ elim (so_far.fine both.0 j t) [ inl w ↦ inl (ap (λ s. s j) is ∙ kept (rest j) (eqb j u) w (ne_eqb j u f)) | inr w ↦ inr w ]
        ];
  }
    where
      kept : (x y : Bool) → x ≡ true → y ≡ false → (x && not y) ≡ true
      kept x y p q = grind arith

  pub looked_all : rest ≡ none → LooksAmong l i others was m m'
  looked_all h = record {
    worn = so_far.worn;
    fine = λ e j t. elim (so_far.fine e j t) [ inl r ↦ absurd (true≢false (sym r ∙ ap (λ s. s j) h)) | inr r ↦ r ];
  }
