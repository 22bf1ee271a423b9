use Rattle.ceiling.proofs.Lawful.{rules_are_lawful_lem}
use Rattle.ceiling.proofs.rules_are_lawful.Goals as goal

pub returns : goal.returns
returns c = rules_are_lawful_lem
