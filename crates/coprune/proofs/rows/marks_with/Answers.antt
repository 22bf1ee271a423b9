use Rattle.std.proofs.Common.{◌≡◌, ℕ, Bool, ◌&&◌, leb, min, rules, ap, ◌∙◌, arith}
use Rattle.plex.specs.Sets.{card, below}
use Rattle.marks.specs.Members.{members}
use Rattle.marks.proofs.Filtering.{kept_by}
use Rattle.coprune.proofs.rows.marks_with.Goals as goal

pub returns : goal.returns
returns g c =
    let m = g.S.Sheet.meaning c.args.sheet.now in
    let test : ℕ → Bool = λ v. leb c.args.ends (card m.marks (m.agrees v)) in
    let few : min m.marks 128 ≡ m.marks = omega (arith, m.few) in
    let all = c.below.ensures ∙ ap below (ap (λ n. min n 128) c.marks.ensures ∙ few) in
    kept_by (members c.below.result) (members c.filter.result) test (λ v. ((λ i. (let made = (c.filter.ensures v).0 i in search rules)), (c.filter.ensures v).1))
    ∙ ap (λ s v. s v && test v) all
