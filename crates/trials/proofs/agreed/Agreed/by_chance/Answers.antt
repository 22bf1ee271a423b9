use Rattle.std.proofs.Common.{refl, sym, ap, ◌∙◌, arith}
use Rattle.trials.specs.Noted.{noted}
use Rattle.trials.specs.Drawn.{drawn, draws_below}
use Rattle.trials.specs.Following.{following}
use Rattle.trials.proofs.Noting.{none_noted}
use Rattle.trials.proofs.Drawing.{draw_more, row_started, row_done, said, first_draw, next_draw, last_draw, all_drawn, none_drawn}
use Rattle.trials.proofs.agreed.Agreed.by_chance.Goals as goal

pub loop-i-init : goal.loop-i-init
unfolding drawn draws_below
loop-i-init g c = (
  refl,
  λ p q. ap (λ r. noted r p q) c.none-agreed.ensures ∙ none_noted g.row.N p q ∙ sym (none_drawn g.row.N c.args.marks c.args.tenths c.args.chance.now.state p q),
)

pub loop-j-init : goal.loop-j-init
loop-j-init g c = (
  c.loop-i.invariant.0 ∙ first_draw c.args.marks c.loop-i.i c.args.chance.now.state,
  λ p q. c.loop-i.invariant.1 p q ∙ row_started g.row.N c.args.marks c.args.tenths c.args.chance.now.state c.loop-i.i p q,
)

pub loop-j-preserved : goal.loop-j-preserved
unfolding drawn
loop-j-preserved g c =
    let drew = c.in_tenths-agree.ensures in
    let low = c.loop-j.auto.j in (
      next_draw c.args.marks c.loop-i.i c.loop-j.j c.args.chance.now.state _ _ low drew.next c.loop-j.invariant.0,
      draw_more g.row.N c.args.marks c.args.tenths c.args.chance.now.state c.loop-i.i c.loop-j.j c.in_tenths-agree.new.self.state c.in_tenths-agree.result _ _ low c.loop-j-test.true
          (drew.next ∙ ap following c.loop-j.invariant.0) (said _ _ _ drew.answer) c.set.ensures c.loop-j.invariant.1,
    )

pub loop-i-preserved : goal.loop-i-preserved
loop-i-preserved g c = (
  c.loop-j.invariant.0 ∙ last_draw c.args.marks c.loop-i.i c.loop-j.j c.args.chance.now.state (omega (arith, c.loop-j.auto.j-end, c.loop-j-test.false, c.loop-i-test.true)),
  λ p q. c.loop-j.invariant.1 p q ∙ row_done g.row.N c.args.marks c.args.tenths c.args.chance.now.state c.loop-i.i c.loop-j.j p q (omega (arith, c.loop-j-test.false)),
)

pub returns-clause-draws : goal.returns-clause-draws
returns-clause-draws g c =
    c.loop-i.invariant.0 ∙ ap (λ i. drawn (draws_below c.args.marks i) c.args.chance.now.state) (omega (arith, c.loop-i.auto.i-end, c.loop-i-test.false))

pub returns-clause-agreement : goal.returns-clause-agreement
returns-clause-agreement g c p q =
    c.loop-i.invariant.1 p q ∙ all_drawn g.row.N c.args.marks c.args.tenths c.args.chance.now.state c.loop-i.i p q (omega (arith, c.loop-i.auto.i-end, c.loop-i-test.false))
