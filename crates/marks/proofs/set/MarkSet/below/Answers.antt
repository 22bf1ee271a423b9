use Rattle.std.proofs.Common.{◌<◌, ap, ◌∙◌, arith}
use Rattle.plex.specs.Sets.{only, ◌∪◌}
use Rattle.plex.proofs.Below.{none_below, one_more_below}
use Rattle.marks.proofs.set.MarkSet.below.Goals as goal

pub loop-mark-init : goal.loop-mark-init
loop-mark-init c = c.empty-set.ensures ∙ none_below

pub loop-mark-preserved : goal.loop-mark-preserved
loop-mark-preserved c =
    let i = c.loop-mark.mark in
    let k : i < 128 = omega (arith, c.min-mark-end.ensures) in
    c.with-set.ensures.inside k ∙ ap (λ t. t ∪ only i) c.loop-mark.invariant ∙ one_more_below i
