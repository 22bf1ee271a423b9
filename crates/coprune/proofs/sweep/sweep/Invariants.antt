use Rattle.std.proofs.Common.{◌≡◌}
use Rattle.plex.specs.Sets.{below}
use Rattle.marks.specs.Members.{members}
use Rattle.coprune.specs.Coprune.{Steps}
use Rattle.coprune.proofs.Stepping.{kind_of}
use Rattle.coprune.proofs.Sweeping.{Swept}
use Rattle.coprune.proofs.sweep.sweep.Given as goal

abbrev pub invariant-loop-i : goal.invariant-loop-i
invariant-loop-i g l =
    Steps (kind_of g.S.Sheet g.S.Strike) (Swept l.limits l.i) l.initial.sheet l.initial.waiting l.struck l.sheet l.waiting
    × (members l.seen ≡ below l.i)
