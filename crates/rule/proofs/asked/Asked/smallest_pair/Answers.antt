use Rattle.std.proofs.Common.{◌≡◌, ◌<◌, length, sym, ◌∙◌, arith, rules}
use Rattle.plex.specs.Sets.{card}
use Rattle.marks.specs.Members.{members}
use Rattle.marks.proofs.Four.{holds_within}
use Rattle.ceiling.specs.Formulas.{by_pair}
use Rattle.ceiling.proofs.Smallest.{two_unique}
use Rattle.ceiling.proofs.Formulas.{pair_is}
use Rattle.rule.specs.Questions.{agreed}
use Rattle.rule.specs.Rooms.{number_of_two}
use Rattle.rule.proofs.Deciding.{out_of_range, asked_well}
use Rattle.rule.proofs.asked.Asked.smallest_pair.Goals as goal
use Rattle.rule.proofs.asked.Asked.smallest_pair.Goals.{then-not-in_range-via-then-not-in_range, then-not-in_range-via-else-not-in_range+then-count-lt2}

pub returns-then-not-in_range : goal.returns-then-not-in_range
returns-then-not-in_range c =
    let q = c.args.self in
    let s = members q.chosen in
    let l : length q.chosen.words ≡ 4 = search rules in
    let rule = pair_is 128 q.k (agreed q) s (members q.others) (holds_within q.chosen.words l) in
    elim c.then-not-in_range.branch [
      | then-not-in_range-via-then-not-in_range v ↦
          sym (rule.otherwise (out_of_range q.k (agreed q) s (sym c.in_range.ensures ∙ v.if-not-in_range.true)))
      | then-not-in_range-via-else-not-in_range+then-count-lt2 v ↦ sym (rule.fewer (omega (arith, v.count.ensures, v.if-count-lt2.true)))
    ]

pub returns-in_err-rooms : goal.returns-in_err-rooms
returns-in_err-rooms c =
    let q = c.args.self in
    let l : length q.chosen.words ≡ 4 = search rules in
    rw c.from_residual.ensures (sym ((pair_is 128 q.k (agreed q) (members q.chosen) (members q.others) (holds_within q.chosen.words l)).otherwise (λ w. c.in_err-rooms.ensures w.plex)))

pub returns : goal.returns
returns c =
    let q = c.args.self in
    let s = members q.chosen in
    let others = members q.others in
    let l : length q.chosen.words ≡ 4 = search rules in
    let two : 1 < card 128 s = omega (arith, c.count.ensures, c.if-count-lt2.false) in
    let well = asked_well q.k (agreed q) s (sym c.if-not-in_range.ensures) c.in_ok-rooms.ensures.0 in
    two_unique s (number_of_two q) c.smallest.result (by_pair 128 q.k (agreed q) s others) c.smallest.ensures
    ((pair_is 128 q.k (agreed q) s others (holds_within q.chosen.words l)).smallest well two)
