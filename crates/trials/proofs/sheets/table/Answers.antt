use Rattle.std.proofs.Common.{sym, subst}
use Rattle.trials.specs.Entries.{AsAnswered}
use Rattle.trials.proofs.sheets.table.Goals as goal

pub returns-clause-agreement : goal.returns-clause-agreement
returns-clause-agreement g c =
    subst (AsAnswered (goal.F-post g c.args.agrees) c.args.marks) (sym c.copy_of.ensures.agrees) c.in_ok-sheet.ensures.agreement
