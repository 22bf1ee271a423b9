use Rattle.marks.specs.Members.{members}
use Rattle.coprune.specs.Coprune.{Looks}
use Rattle.coprune.proofs.Looking.{Looked, looked_one, looked_all}
use Rattle.coprune.proofs.Stepping.{kind_of, steps_on}
use Rattle.coprune.proofs.look.look_among.Goals as goal

pub loop-j-preserved : goal.loop-j-preserved
loop-j-preserved g c =
    let mean = g.S.Sheet.meaning in
    let l = c.args.limits in
    let i = c.args.i in
    let j = c.in-Some.j in
    let others = members c.args.others in
    let rest = members c.loop-j.j-iterator.rest in
    let rest' = members c.next.new.self.rest in
    let was = c.loop-j.struck in
    let r = c.look_at_pair-struck.result in (
      tt,
      tt,
      steps_on (kind_of g.S.Sheet g.S.Strike) (Looked l i others rest) (Looks l i j) (Looked l i others rest') _ _ was r _ _ _ _ c.loop-j.invariant.2
          c.look_at_pair-struck.ensures
          (λ p q same. looked_one l i others rest was (mean c.args.sheet.now) (mean c.loop-j.sheet) p j rest' r (mean c.look_at_pair-struck.new.sheet) q same
          c.in-Some.ensures.steps.2),
    )

pub returns : goal.returns
returns g c =
    let so_far = c.loop-j.invariant.2 in
    record {
      strikes = record {
        means = looked_all _ _ _ _ _ _ _ so_far.strikes.means c.in-None.ensures.steps.1;
        lasts = so_far.strikes.lasts;
      };
      idle = so_far.idle;
      room = so_far.room;
    }
