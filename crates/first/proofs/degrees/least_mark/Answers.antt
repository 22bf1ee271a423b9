use Rattle.std.proofs.Common.{rules, subst}
use Rattle.plex.specs.Least.{Least}
use Rattle.marks.specs.Members.{members}
use Rattle.marks.proofs.Picking.{least_picked}
use Rattle.first.specs.Degrees.{degree}
use Rattle.first.proofs.degrees.least_mark.Goals as goal

pub returns : goal.returns
returns c =
    let number = degree c.args.degrees.now in
    subst (λ m. Least 128 (members m) number c.min_by_key.result) c.rising.ensures
    (least_picked number (λ x k f' called. search rules) c.rising.result c.min_by_key.result c.min_by_key.ensures.ran)
