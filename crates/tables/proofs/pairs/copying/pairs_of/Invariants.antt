use Rattle.std.proofs.Common.{◌≡◌}
use Rattle.tables.specs.Pairs.{pairs_to}
use Rattle.tables.specs.Copying.{listed}
use Rattle.tables.proofs.pairs.copying.pairs_of.Given as goal

-- the pairs with the marks below i were listed
abbrev pub invariant-loop-i : goal.invariant-loop-i
invariant-loop-i g l = listed l.list ≡ pairs_to l.i l.marks (g.S.Sheet.meaning l.sheet).agrees
