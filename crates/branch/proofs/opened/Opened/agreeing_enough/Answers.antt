use Rattle.std.proofs.Common.{ℕ, sym, ◌∙◌, subst, arith}
use Rattle.plex.proofs.Count.{card_mono}
use Rattle.marks.specs.Members.{members}
use Rattle.marks.specs.declared.set.MarkSet.{MarkSet}
use Rattle.branch.specs.declared.opened.Opened.{Opened}
use Rattle.branch.specs.Agreeing.{Swept}
use Rattle.branch.specs.Opened.{agreed}
use Rattle.branch.proofs.Sweeps.{rounds_none, rounds_more, rounds_all}
use Rattle.branch.proofs.opened.Opened.agreeing_enough.Goals as goal

-- what a pass over a branch leaves
abbrev Leaves : ℕ → MarkSet → Opened → Type 0
Leaves few next q = Swept few (agreed q) (members q.chosen) (members q.candidates) (members next)

pub loop-next-init : goal.loop-next-init
loop-next-init c = rounds_none c.args.few (agreed c.args.self) (members c.args.self.chosen) (members c.args.self.candidates)

pub returns-then-count : goal.returns-then-count
returns-then-count c =
    let q = c.args.self in
    rounds_all c.args.few (agreed q) (members q.chosen) (members q.candidates) (members c.loop-next.fitting) (members c.swept-next.result)
    (sym c.count.ensures ∙ c.if-count.true ∙ c.count-in-loop-next.ensures) c.loop-next.invariant (subst (Leaves c.args.few c.swept-next.result) c.narrowed.ensures c.swept-next.ensures)

pub loop-next-smaller : goal.loop-next-smaller
loop-next-smaller c =
    let next = c.swept-next.result in
    let fitting = c.loop-next.fitting in
    let swept = subst (Leaves c.args.few next) c.narrowed.ensures c.swept-next.ensures in
    omega (
      arith,
      next.counted,
      fitting.counted,
      c.count.ensures,
      c.count-in-loop-next.ensures,
      c.if-count.false,
      card_mono 128 (members next) (members fitting) swept.part,
    )

pub loop-next-preserved : goal.loop-next-preserved
loop-next-preserved c =
    let q = c.args.self in
    rounds_more c.args.few (agreed q) (members q.chosen) (members q.candidates) (members c.loop-next.fitting) (members c.swept-next.result) c.loop-next.invariant
    (subst (Leaves c.args.few c.swept-next.result) c.narrowed.ensures c.swept-next.ensures)
