use Rattle.std.proofs.Common.{refl}
use Rattle.marks.proofs.Filtering.{kept_one, dropped_one, all_filtered}
use Rattle.marks.proofs.set.MarkSet.filter.Goals as goal

pub loop-mark-preserved-then-not-keeps : goal.loop-mark-preserved-then-not-keeps
loop-mark-preserved-then-not-keeps g c =
    let came = c.in-Some.ensures.steps in (
      tt,
      tt,
      dropped_one (goal.F-post g c.args.keeps) _ _ _ _ _ c.in-Some.mark came.2 c.loop-mark.invariant.2 came.1.1 c.without-kept.ensures c.if-not-keeps.ensures,
    )

pub loop-mark-preserved : goal.loop-mark-preserved
loop-mark-preserved g c =
    let came = c.in-Some.ensures.steps in (tt, tt, kept_one (goal.F-post g c.args.keeps) _ _ _ _ _ c.in-Some.mark came.2 c.loop-mark.invariant.2 came.1.1 refl c.if-not-keeps.ensures)

pub returns : goal.returns
returns g c = all_filtered (goal.F-post g c.args.keeps) _ _ _ c.in-None.ensures.steps.1 c.loop-mark.invariant.2
