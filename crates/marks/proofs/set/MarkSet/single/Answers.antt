use Rattle.std.proofs.Common.{ap, ◌∙◌}
use Rattle.plex.specs.Sets.{◌∪◌, only}
use Rattle.plex.specs.Words.{holds}
use Rattle.marks.proofs.set.MarkSet.single.Goals as goal

pub returns : goal.returns
returns c =
    record {
      inside = λ h. c.with.ensures.inside h ∙ ap (λ s. s ∪ only c.args.mark) c.empty.ensures;
      outside = λ h. ap (λ m. holds m.words) (c.with.ensures.outside h) ∙ c.empty.ensures;
    }
