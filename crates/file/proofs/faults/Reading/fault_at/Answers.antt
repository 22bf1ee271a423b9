use Rattle.std.proofs.Common.{rules}
use Rattle.fileword.proofs.WordKinds.{no_kind}
use Rattle.file.proofs.faults.Reading.fault_at.Goals as goal

pub returns-in_default-4 : goal.returns-in_default-4
returns-in_default-4 c = let n = no_kind _ _ c.of.ensures c.in_default.is in search rules
