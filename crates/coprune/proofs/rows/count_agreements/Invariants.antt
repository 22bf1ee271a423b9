use Rattle.std.proofs.Common.{◌≡◌}
use Rattle.plex.specs.Sets.{below}
use Rattle.marks.specs.Members.{members}
use Rattle.pruning.specs.Pruned.{sum_to}
use Rattle.coprune.proofs.Counting.{higher}
use Rattle.coprune.proofs.rows.count_agreements.Given as goal

abbrev pub invariant-loop-i : goal.invariant-loop-i
invariant-loop-i g l = (members l.seen ≡ below l.i) × (l.count ≡ sum_to l.i (higher (g.S.Sheet.meaning l.sheet)))
