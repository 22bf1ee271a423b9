use Rattle.searching.proofs.Theorems.{law_over_runs_lem}
use Rattle.searching.proofs.law_over_runs.Goals as goal

pub returns : goal.returns
returns c = law_over_runs_lem
