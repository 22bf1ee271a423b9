use Rattle.std.proofs.Common.{◌+◌, ◌<◌, ◌≤◌, ap, ◌∙◌, ap₂, arith}
use Rattle.plex.specs.Sets.{◌∖◌}
use Rattle.marks.specs.Members.{members}
use Rattle.coprune.specs.Coprune.{LooksAmong}
use Rattle.plex.proofs.Below.{none_below}
use Rattle.coprune.proofs.Counting.{seen_more}
use Rattle.coprune.proofs.Sweeping.{Swept, swept_none, swept_one, swept_all}
use Rattle.coprune.proofs.Stepping.{kind_of, steps_none, steps_on}
use Rattle.coprune.proofs.sweep.sweep.Goals as goal

pub loop-i-init : goal.loop-i-init
loop-i-init g c =
    let P = Swept c.args.limits 0 in
    (steps_none (kind_of g.S.Sheet g.S.Strike) P P P _ _ (swept_none c.args.limits _), c.empty-seen.ensures ∙ none_below)

pub loop-i-preserved : goal.loop-i-preserved
loop-i-preserved g c =
    let mean = g.S.Sheet.meaning in
    let m = mean c.args.sheet.now in
    let m' = mean c.loop-i.sheet in
    let m'' = mean c.look_among-struck.new.sheet in
    let l = c.args.limits in
    let i = c.loop-i.i in
    let was = c.loop-i.struck in
    let r = c.look_among-struck.result in
    let above = members c.minus-above.result in
    let k : i < 128 = omega (arith, c.marks-i-end.ensures, m.few) in
    let seen = seen_more i _ _ c.loop-i.invariant.1 (c.with-seen.ensures.inside k) in
    let is = c.minus-above.ensures ∙ ap₂ ◌∖◌ c.neighbours.ensures.set seen in (
      steps_on (kind_of g.S.Sheet g.S.Strike) (Swept l i) (LooksAmong l i above) (Swept l (i + 1)) _ _ was r _ _ _ _ c.loop-i.invariant.0
          c.look_among-struck.ensures (λ p q same. swept_one l i was m m' p above r m'' q same is),
      seen,
    )

pub returns : goal.returns
returns g c =
    let mean = g.S.Sheet.meaning in
    let m = mean c.args.sheet.now in
    let so_far = c.loop-i.invariant.0 in
    let end : m.marks ≤ c.loop-i.i = omega (arith, c.marks-i-end.ensures) in
    record {
      means = swept_all c.args.limits c.loop-i.i c.loop-i.struck m (mean c.loop-i.sheet) so_far.strikes.means end (λ e. ap mean (so_far.idle e).0);
      lasts = so_far.strikes.lasts;
    }
