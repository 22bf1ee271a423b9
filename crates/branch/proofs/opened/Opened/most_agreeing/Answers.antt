use Rattle.std.proofs.Common.{ℕ, ◌-◌, subst, rules}
use Rattle.plex.specs.Sets.{card, ◌∩◌}
use Rattle.plex.specs.Least.{Least}
use Rattle.plex.proofs.Count.{card_le}
use Rattle.marks.specs.Members.{members}
use Rattle.marks.proofs.Picking.{least_picked}
use Rattle.branch.specs.Opened.{agreed}
use Rattle.branch.proofs.Picks.{picked_from}
use Rattle.branch.proofs.opened.Opened.most_agreeing.Goals as goal

pub min_by_key-requires-clause-callable : goal.min_by_key-requires-clause-callable
min_by_key-requires-clause-callable c = let few = card_le 128 in search rules

pub returns : goal.returns
returns c =
    let q = c.args.self in
    let s = members q.chosen in
    let d = members q.candidates in
    let all = members c.or-all.result in
    let number : ℕ → ℕ = λ v. 128 - card 128 (all ∩ agreed q v) in
    let best = least_picked number (λ x k f' called. search rules) c.rising.result c.min_by_key.result c.min_by_key.ensures.ran in
    picked_from (agreed q) s d (members c.args.marks) c.min_by_key.result
    (subst (λ t. Least 128 (members c.args.marks) (λ v. 128 - card 128 (t ∩ agreed q v)) c.min_by_key.result) c.or-all.ensures
    (subst (λ m. Least 128 (members m) number c.min_by_key.result) c.rising.ensures best))
