use Rattle.ceiling.proofs.Formulas.{formulas_stand_lem}
use Rattle.ceiling.proofs.formulas_stand.Goals as goal

pub returns : goal.returns
returns c = formulas_stand_lem
