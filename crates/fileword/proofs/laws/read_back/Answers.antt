use Rattle.fileword.proofs.ReadBack.{read_back}
use Rattle.fileword.proofs.laws.read_back.Goals as goal

pub returns : goal.returns
returns c = read_back
