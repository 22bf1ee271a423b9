use Rattle.std.proofs.Common.{rules}
use Rattle.fileword.proofs.WordKinds.{no_kind}
use Rattle.file.proofs.faults.stands_in_pairs.Goals as goal

pub returns-in_default-2 : goal.returns-in_default-2
returns-in_default-2 c = let n = no_kind _ _ c.of.ensures c.in_default.is in search rules
