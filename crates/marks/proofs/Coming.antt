-- The marks of a set as the list that comes of it.
use Rattle.std.proofs.Common.{length, ap}
use Rattle.std.proofs.lemmas.Iterator.{YieldsList}
use Rattle.std.proofs.lemmas.Iterator.Consumers.{YieldsList-from_shown}
use Rattle.marks.specs.declared.set.iter.Rising.{Rising}
use Rattle.marks.specs.Rising.{to_come, Gives}

pub comes : (r : Rising) → YieldsList Gives (λ u. u) r (to_come r)
comes r = YieldsList-from_shown Gives (λ u. u) to_come (λ s t h. ap length h.0) (λ s u t h. h.0) r
