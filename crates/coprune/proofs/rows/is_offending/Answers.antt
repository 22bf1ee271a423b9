use Rattle.std.proofs.Common.{◌||◌, ltb, ap, ◌∙◌, ap₂}
use Rattle.plex.specs.Sets.{card, ◌∩◌}
use Rattle.plex.proofs.Within.{shared_count}
use Rattle.coprune.proofs.rows.is_offending.Goals as goal

pub returns : goal.returns
returns g c =
    let m = g.S.Sheet.meaning c.args.sheet.now in
    let a = c.args.limits.ends in
    let b = c.args.limits.shared in
    let of-i = c.count.ensures ∙ c.neighbours-of_i.ensures.number in
    let of-j = c.count-2.ensures ∙ c.neighbours-of_j.ensures.number in
    let both = c.count-3.ensures ∙ ap (card 128) (c.and.ensures ∙ ap₂ ◌∩◌ c.neighbours-of_i.ensures.set c.neighbours-of_j.ensures.set)
    ∙ shared_count m c.args.i c.args.j in
    c.unmet.ensures ∙ ap₂ ◌||◌ (ap (λ x. ltb x a) of-i) (ap₂ ◌||◌ (ap (λ x. ltb x a) of-j) (ap (λ x. ltb x b) both))
