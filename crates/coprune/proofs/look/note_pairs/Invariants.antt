use Rattle.coprune.specs.Waiting.{SameRoom}
use Rattle.coprune.proofs.look.note_pairs.Given as goal

abbrev pub invariant-loop-w : goal.invariant-loop-w
invariant-loop-w g l =
    (goal.iterator-loop-w g).can_next l.w-iterator × (goal.iterator-loop-w g).is_finite l.w-iterator × SameRoom l.initial.waiting l.waiting
