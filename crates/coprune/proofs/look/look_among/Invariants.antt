use Rattle.marks.specs.Members.{members}
use Rattle.coprune.specs.Coprune.{Steps}
use Rattle.coprune.proofs.Stepping.{kind_of}
use Rattle.coprune.proofs.Looking.{Looked}
use Rattle.coprune.proofs.look.look_among.Given as goal

abbrev pub invariant-loop-j : goal.invariant-loop-j
invariant-loop-j g l =
    (goal.iterator-loop-j g).can_next l.j-iterator
    × (goal.iterator-loop-j g).is_finite l.j-iterator
    × Steps (kind_of g.S.Sheet g.S.Strike) (Looked l.limits l.i (members l.fn.others) (members l.j-iterator.rest)) l.initial.sheet l.initial.waiting l.struck l.sheet l.waiting
