use Rattle.fileword.proofs.Verdict.{accepted_when_good_lem}
use Rattle.fileword.proofs.laws.accepted_when_good.Goals as goal

pub returns : goal.returns
returns c = accepted_when_good_lem
