-- What a word's kind says of its number.
use Rattle.std.proofs.Common.{◌≡◌, ℕ, ◌≤◌, ◌⊎◌, None, Option, subst, arith}
use Rattle.fileword.specs.Layout.{KindIs}
use Rattle.fileword.specs.declared.layout.Kind.{Kind}
use Rattle.fileword.specs.declared.layout.Kind.TheVariants.{Head, Pair, PlannedXy, PlannedZ, SeenXy, SeenZ, Tolerance, StruckPair, End}

-- where there is no kind the number is that of none
pub no_kind : (m : ℕ) (o : Option Kind) → KindIs m o → o ≡ None → (m ≡ 0) ⊎ ((8 ≤ m) × (m ≤ 13)) ⊎ (16 ≤ m)
no_kind m o h e =
    let P : Option Kind → Type 0 = λ x. KindIs m x in
    let n = subst P e h in
    grind (arith, n Head, n Pair, n PlannedXy, n PlannedZ, n SeenXy, n SeenZ, n Tolerance, n StruckPair, n End)
