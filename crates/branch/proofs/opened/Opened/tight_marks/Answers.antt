use Rattle.std.proofs.Common.{◌+◌, ◌==◌, rules}
use Rattle.marks.specs.Members.{members}
use Rattle.marks.proofs.Filtering.{kept_by}
use Rattle.ceiling.specs.Formulas.{misses}
use Rattle.branch.specs.Opened.{agreed}
use Rattle.branch.proofs.opened.Opened.tight_marks.Goals as goal

pub returns : goal.returns
returns c =
    let q = c.args.self in
    kept_by (members q.candidates) (members c.filter.result) (λ v. misses 128 (agreed q) (members q.chosen) v + 1 == q.k)
    (λ v. ((λ t. (let made = (c.filter.ensures v).0 t in search rules)), (c.filter.ensures v).1))
