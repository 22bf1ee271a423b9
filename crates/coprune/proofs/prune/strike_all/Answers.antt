use Rattle.std.proofs.Common.{arith}
use Rattle.coprune.specs.Coprune.{Wears, Ends, Sweeps}
use Rattle.coprune.proofs.Wearing.{wears_on, wears_fewer}
use Rattle.coprune.proofs.Stepping.{kind_of, strikes_on}
use Rattle.coprune.proofs.Ending.{ends_largest}
use Rattle.coprune.proofs.prune.strike_all.Goals as goal

pub loop-limits-smaller : goal.loop-limits-smaller
loop-limits-smaller g c =
    omega (arith, c.sweep.ensures.means.worn.fewer c.loop-limits-test.true, wears_fewer c.args.limits _ _ c.drain.ensures.wears.means)

pub loop-limits-preserved : goal.loop-limits-preserved
loop-limits-preserved g c =
    let kind = kind_of g.S.Sheet g.S.Strike in
    let W = Wears c.args.limits in
    strikes_on kind W W W _ _ _ (strikes_on kind W (Sweeps c.args.limits c.sweep.result) W _ _ _ c.loop-limits.invariant c.sweep.ensures (λ p q. wears_on _ _ _ _ p q.worn.wears))
    c.drain.ensures.wears (λ p q. wears_on _ _ _ _ p q)

pub returns : goal.returns
returns g c =
    let l = c.args.limits in
    strikes_on (kind_of g.S.Sheet g.S.Strike) (Wears l) (Sweeps l c.sweep.result) (Ends l) _ _ _ c.loop-limits.invariant c.sweep.ensures
    (λ p q. ends_largest l _ _ _ (wears_on l _ _ _ p q.worn.wears) (q.fine c.loop-limits-test.false))
