use Rattle.std.proofs.Common.{◌≡◌, ◌*◌, ◌<◌, ◌≤◌, ◌^◌, length, get_or, refl, arith, rules, below_more}
use Rattle.marks.proofs.First.{zeros_all, lowest_lt, lowest_held, lowest_first}
use Rattle.marks.proofs.set.MarkSet.lowest.Goals as goal

pub loop-at-init : goal.loop-at-init
loop-at-init c = λ p h. absurd (omega arith)

pub returns-then-word-ne0 : goal.returns-then-word-ne0
returns-then-word-ne0 c =
    let ws = c.args.self.words in
    let j = c.loop-at.at in
    let fits : get_or ws j 0 < 2 ^ 32 = search rules in
    let first = 32 * j in (
      omega (arith, lowest_lt ws j first refl fits c.if-word-ne0.true c.loop-at.invariant, c.loop-at-test.true),
      lowest_held ws j first refl fits c.if-word-ne0.true c.loop-at.invariant,
      lowest_first ws j first refl fits c.if-word-ne0.true c.loop-at.invariant,
    )

pub loop-at-preserved : goal.loop-at-preserved
loop-at-preserved c = below_more _ _ c.loop-at.invariant c.if-word-ne0.false

pub returns : goal.returns
returns c =
    let ws = c.args.self.words in
    let l : length ws ≡ 4 = search rules in
    let e : length ws ≤ c.loop-at.at = omega arith in
    zeros_all ws c.loop-at.at e c.loop-at.invariant
