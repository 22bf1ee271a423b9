use Rattle.marks.specs.Members.{members}
use Rattle.ceiling.specs.Formulas.{by_degree}
use Rattle.rule.proofs.Deciding.{found_replies}
use Rattle.rule.proofs.degree.DegreeRuleCeilingRule.ceiling.Goals as goal

pub returns : goal.returns
returns c =
    let asked = c.of-asked in
    found_replies by_degree asked.result c.args.k c.args.table.now c.args.chosen (members c.args.candidates) c.smallest_degree.result c.all_marks.result c.unwrap_or.result
    asked.ensures.k asked.ensures.table asked.ensures.chosen asked.ensures.others c.smallest_degree.ensures.finds c.all_marks.ensures c.unwrap_or.ensures
