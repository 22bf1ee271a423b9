-- The entry is of as many marks as were asked for, and holds what was answered so far.
use Rattle.std.proofs.Common.{◌≡◌}
use Rattle.sheet.specs.Entering.{entered}
use Rattle.trials.proofs.Answering.{AnsweredTo}
use Rattle.trials.proofs.sheets.sheet.Given as goal

abbrev pub invariant-loop-i : goal.invariant-loop-i
invariant-loop-i g l =
    (l.entry.marks ≡ l.marks) × AnsweredTo (goal.F-post g l.agrees) l.marks l.i 0 (entered l.entry.words.now l.marks)

abbrev pub invariant-loop-j : goal.invariant-loop-j
invariant-loop-j g l =
    (l.entry.marks ≡ l.marks) × AnsweredTo (goal.F-post g l.agrees) l.marks l.i l.j (entered l.entry.words.now l.marks)
