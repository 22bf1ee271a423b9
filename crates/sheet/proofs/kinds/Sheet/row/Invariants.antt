use Rattle.std.proofs.Common.{◌≡◌}
use Rattle.plex.specs.Sets.{below, ◌∩◌}
use Rattle.marks.specs.Members.{members}
use Rattle.sheet.proofs.kinds.Sheet.row.Given as goal

-- the marks below j that agree with i
abbrev pub invariant-loop-j : goal.invariant-loop-j
invariant-loop-j g l = members l.row ≡ (g.Self.Sheet.meaning l.self).agrees l.i ∩ below l.j
