-- Words without an end.
use Rattle.std.proofs.Common.{◌≡◌, ℕ, not, eqb, List, [], ◌∷◌, refl, arith}
use Rattle.std.specs.List.{list_any}
use Rattle.fileword.specs.Layout.{kind}
use Rattle.fileword.specs.Faults.{lacks_end}

pub lacks_any : (ws : List ℕ) → lacks_end ws ≡ not (list_any (λ w. eqb (kind w) 15) ws)
lacks_any [] = refl
lacks_any (w ∷ ws) = let e = lacks_any ws in grind arith
