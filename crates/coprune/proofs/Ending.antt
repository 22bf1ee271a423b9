-- A sweep that strikes nothing leaves the largest set.
use Rattle.std.proofs.Common.{◌≡◌, ℕ, true, false, sym, ◌∙◌, subst, inl, inr}
use Rattle.std.proofs.lemmas.Bool.{and_cases, true≢false}
use Rattle.plex.specs.Meaning.{Meaning}
use Rattle.pruning.specs.Pruned.{offends}
use Rattle.pruning.proofs.Keeping.{largest_at_end}
use Rattle.coprune.specs.declared.limits.Limits.{Limits}
use Rattle.coprune.specs.Coprune.{Wears, bad, Ends}
use Rattle.plex.proofs.Within.{two_way}

-- no agreement of m may not stay
no_offender : (l : Limits) (m : Meaning) → ((i j : ℕ) → bad l m i j ≡ false) → (i j : ℕ) → m.agrees i j ≡ true →
    offends m.marks l.ends l.shared m.agrees i j ≡ false
no_offender l m h i j t =
    elim (and_cases (m.agrees i j) _ (h i j)) [ inl e ↦ absurd (true≢false (sym t ∙ e)) | inr e ↦ e ]

pub ends_largest : (l : Limits) (m m₁ m₂ : Meaning) → Wears l m m₂ → (m₂ ≡ m₁) × ((i j : ℕ) → bad l m₁ i j ≡ false) → Ends l m m₂
ends_largest l m m₁ m₂ w f =
    let P : Meaning → Type 0 = λ x. (i j : ℕ) → bad l x i j ≡ false in
    let fine = no_offender l m₂ (subst P (sym f.0) f.1) in
    let Q : ℕ → Type 0 = λ n. (i j : ℕ) → m₂.agrees i j ≡ true → offends n l.ends l.shared m₂.agrees i j ≡ false in
    record { marks = w.marks; largest = largest_at_end m.marks l.ends l.shared m.agrees m₂.agrees (two_way m₂) w.kept (subst Q w.marks fine) }
