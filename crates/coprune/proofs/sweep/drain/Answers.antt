use Rattle.coprune.specs.Coprune.{Wears, Worn}
use Rattle.coprune.proofs.Wearing.{wears_on}
use Rattle.coprune.proofs.Stepping.{kind_of, strikes_on}
use Rattle.coprune.proofs.Working.{work_less}
use Rattle.coprune.proofs.sweep.drain.Goals as goal

pub loop-next-smaller : goal.loop-next-smaller
loop-next-smaller g c = work_less (kind_of g.S.Sheet g.S.Strike) c.args.limits _ _ _ _ _ c.in-Some.next c.look_at.result c.in-Some.ensures c.look_at.ensures

pub loop-next-preserved : goal.loop-next-preserved
loop-next-preserved g c =
    strikes_on (kind_of g.S.Sheet g.S.Strike) (Wears c.args.limits) (Worn c.args.limits c.look_at.result) (Wears c.args.limits) _ _ _ c.loop-next.invariant
    c.look_at.ensures.strikes (λ p q. wears_on _ _ _ _ p q.wears)
