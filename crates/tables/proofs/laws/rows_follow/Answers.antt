use Rattle.std.proofs.Common.{sym, ap, ◌∙◌}
use Rattle.tables.proofs.Rows.{rows_ext}
use Rattle.tables.proofs.laws.rows_follow.Goals as goal

pub returns : goal.returns
returns c = λ s t p q e. rows_ext s.rows t.rows (p.many ∙ sym q.many) p.each q.each (λ i j. ap (λ r. r i j) e)
