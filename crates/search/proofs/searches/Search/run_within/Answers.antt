use Rattle.std.proofs.Common.{inl, inr}
use Rattle.searching.specs.Steps.{still, onward}
use Rattle.search.proofs.searches.Search.run_within.Goals as goal

pub loop-taken-init : goal.loop-taken-init
loop-taken-init g c = still

pub loop-taken-preserved : goal.loop-taken-preserved
loop-taken-preserved g c =
    elim c.step.ensures [ inl x ↦ onward c.loop-taken.invariant x.1 | inr x ↦ absurd (c.if-step-eq0.false x.0) ]
