use Rattle.std.proofs.Common.{◌≡◌, ℕ, zero, suc, ◌+◌, ◌-◌, ◌%◌, ◌<◌, [], ◌∷◌, get_or, refl, arith, rules}
use Rattle.fileword.specs.Layout.{kind_number}
use Rattle.fileword.specs.declared.layout.Kind.TheVariants.{Head, PlannedXy, PlannedZ, SeenXy, SeenZ}
use Rattle.file.proofs.faults.stands_in_measured.Goals as goal

-- the kinds of a mark's words have rising numbers
in_turn : (r : ℕ) → r < 4 → kind_number (get_or (PlannedXy ∷ PlannedZ ∷ SeenXy ∷ SeenZ ∷ []) r Head) ≡ 3 + r
in_turn zero l = refl
in_turn (suc zero) l = refl
in_turn (suc (suc zero)) l = refl
in_turn (suc (suc (suc zero))) l = refl
in_turn (suc (suc (suc (suc r)))) l = absurd (omega arith)

pub returns-then-place-end : goal.returns-then-place-end
returns-then-place-end c =
    let r = (c.args.place - 2) % 4 in
    let f = in_turn r (omega arith) in
    search rules
