use Rattle.std.proofs.Common.{◌<◌, true, false, sym, ap, ◌∙◌, subst, arith}
use Rattle.std.proofs.Math.Bool.{or-false}
use Rattle.sheet.specs.Entering.{entered}
use Rattle.trials.proofs.Answering.{none_answered, one_entered, row_begun, row_ended, one_answered, all_answered}
use Rattle.trials.proofs.sheets.sheet.Goals.{then-agrees+in_ok-enter, else-agrees}
use Rattle.trials.proofs.sheets.sheet.Goals as goal

pub loop-i-init : goal.loop-i-init
loop-i-init g c = (c.in-Ok.ensures.begins.marks, none_answered (goal.F-post g c.args.agrees) c.args.marks _ c.in-Ok.ensures.begins.nothing)

pub loop-j-init : goal.loop-j-init
loop-j-init g c = (c.loop-i.invariant.0, row_begun (goal.F-post g c.args.agrees) c.args.marks c.loop-i.i _ c.loop-i.invariant.1)

pub loop-j-preserved : goal.loop-j-preserved
loop-j-preserved g c =
    let so_far = entered c.loop-j.entry.words.now c.args.marks in
    let step = one_answered (goal.F-post g c.args.agrees) c.args.marks c.loop-i.i c.loop-j.j in
    let low : c.loop-i.i < c.loop-j.j = omega (arith, c.loop-j.auto.j) in
    elim c.if-agrees.branch [
      | then-agrees+in_ok-enter w ↦
          let done = w.in_ok-enter.ensures in
          rw (w.entry-is) (
            done.marks ∙ c.loop-j.invariant.0,
            step true so_far _ low c.loop-j-test.true w.if-agrees.ensures (one_entered _ _ _ _ _ _ _ c.loop-j.invariant.0 low done.enters) c.loop-j.invariant.1,
          )
      | else-agrees w ↦
          rw (w.entry-is) (
            c.loop-j.invariant.0,
            step false so_far so_far low c.loop-j-test.true w.if-agrees.ensures (λ p q _. sym (or-false _)) c.loop-j.invariant.1,
          )
    ]

pub loop-i-preserved : goal.loop-i-preserved
loop-i-preserved g c =
    (c.loop-j.invariant.0, row_ended (goal.F-post g c.args.agrees) c.args.marks c.loop-i.i c.loop-j.j _ (omega (arith, c.loop-j-test.false)) c.loop-j.invariant.1)

pub returns-clause-agreement : goal.returns-clause-agreement
returns-clause-agreement g c i j h m =
    subst (goal.F-post g c.args.agrees i j)
    (sym (c.seal.ensures.agreement i j ∙ ap (λ n. entered c.loop-i.entry.words.now n i j) c.loop-i.invariant.0))
    (all_answered (goal.F-post g c.args.agrees) c.args.marks c.loop-i.i _ (omega (arith, c.loop-i-test.false)) c.loop-i.invariant.1 i j h m)
