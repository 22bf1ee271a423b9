use Rattle.std.proofs.Common.{◌≡◌, ◌<◌, ◌+◌, length, min, sym, ap, ◌∙◌, subst, arith, rules}
use Rattle.std.proofs.lemmas.Bool.{eqb-true, both_ways}
use Rattle.plex.specs.Sets.{card}
use Rattle.plex.proofs.Count.{card_le}
use Rattle.marks.specs.Members.{members}
use Rattle.marks.proofs.Four.{holds_within}
use Rattle.ceiling.specs.Formulas.{in_range}
use Rattle.ceiling.proofs.Formulas.{degree_is}
use Rattle.rule.specs.Passes.{nothing_yet, Lowered}
use Rattle.rule.specs.Questions.{agreed}
use Rattle.rule.proofs.Passing.{all_left, left_part, passed_nothing, passed_more, passed_all, lowest_none, lowest_more, lowest_all}
use Rattle.rule.proofs.Plexes.{MissesFew, misses_counted, agreements_counted, plex_by_misses, no_plex}
use Rattle.rule.proofs.Deciding.{out_of_range, small_range, some_marks, degree_found}
use Rattle.rule.proofs.asked.Asked.smallest_degree.Invariants.{number_in}
use Rattle.rule.proofs.asked.Asked.smallest_degree.Goals as goal
use Rattle.rule.proofs.asked.Asked.smallest_degree.Goals.{then-not-in_range-via-then-not-in_range, then-not-in_range-via-else-not-in_range+then-is_empty}

pub returns-then-not-in_range : goal.returns-then-not-in_range
returns-then-not-in_range c =
    let q = c.args.self in
    let s = members q.chosen in
    let l : length q.chosen.words ≡ 4 = search rules in
    let rule = degree_is 128 q.k (agreed q) s (members q.others) (holds_within q.chosen.words l) in
    elim c.then-not-in_range.branch [
      | then-not-in_range-via-then-not-in_range v ↦
          let off = sym c.in_range.ensures ∙ v.if-not-in_range.true in record {
            passes = λ r some p. both_ways (in_range q.k) off r;
            finds = sym (rule.otherwise (out_of_range q.k (agreed q) s off));
          }
      | then-not-in_range-via-else-not-in_range+then-is_empty v ↦
          let none = eqb-true (card 128 s) 0 (sym v.is_empty.ensures ∙ v.if-is_empty.true) in record {
            passes = λ r some p. omega (arith, none, some);
            finds = sym (rule.empty none);
          }
    ]

pub loop-u-init : goal.loop-u-init
loop-u-init c =
    let q = c.args.self in
    let s = members q.chosen in
    let rest = members c.into_iter-u-iterator.result.rest in
    let e : rest ≡ s = ap (λ r. members r.rest) c.into_iter-u-iterator.ensures.into_iter_gives ∙ ap members c.rising-u-items.ensures in (
      tt,
      tt,
      all_left s rest e,
      passed_nothing (MissesFew q.k (agreed q) s) s rest e,
      lowest_none s rest (number_in q.k (agreed q) (members c.or-all.result)) nothing_yet e,
    )

pub returns-then-count-self : goal.returns-then-count-self
returns-then-count-self c =
    let q = c.args.self in
    let s = members q.chosen in
    let u = c.in-Some.u in
    let l : length q.chosen.words ≡ 4 = search rules in
    let missed = misses_counted (agreed q) s u c.neighbours-row.ensures.set c.minus.ensures c.count.ensures in
    let no = no_plex q.k (agreed q) s u (c.loop-u.invariant.2 u c.in-Some.ensures.steps.1.1) (omega (arith, missed, c.if-count-self.true)) in
    record {
      passes = λ r some p. no p;
      finds = sym ((degree_is 128 q.k (agreed q) s (members q.others) (holds_within q.chosen.words l)).otherwise (λ w. no w.plex));
    }

pub overflow_add-self : goal.overflow_add-self
overflow_add-self c =
    omega (arith, small_range c.args.self.k (sym c.if-not-in_range.ensures), c.count-in-loop-u.ensures, card_le 128 (members c.and.result))

pub loop-u-preserved : goal.loop-u-preserved
loop-u-preserved c =
    let q = c.args.self in
    let s = members q.chosen in
    let all = members c.or-all.result in
    let rest = members c.loop-u.u-iterator.rest in
    let rest' = members c.next.new.self.rest in
    let came = c.in-Some.ensures.steps in
    let u = c.in-Some.u in
    let inv = c.loop-u.invariant in
    let missed = misses_counted (agreed q) s u c.neighbours-row.ensures.set c.minus.ensures c.count.ensures in
    let near = agreements_counted (agreed q) all u c.neighbours-row.ensures.set c.and.ensures c.count-in-loop-u.ensures in (
      tt,
      tt,
      left_part s rest rest' u came.2 inv.2,
      passed_more (MissesFew q.k (agreed q) s) s rest rest' u came.2 (came.1.0, omega (arith, missed, c.if-count-self.false)) inv.3,
      lowest_more s rest rest' (number_in q.k (agreed q) all) nothing_yet c.loop-u.smallest u c.min-smallest.result (inv.2 u came.1.1) came.2
          (c.min-smallest.ensures ∙ ap (λ m. min c.loop-u.smallest (q.k + m)) near) inv.4,
    )

pub returns : goal.returns
returns c =
    let q = c.args.self in
    let s = members q.chosen in
    let rest = members c.loop-u.u-iterator.rest in
    let over = c.in-None.ensures.steps.1 in
    let inv = c.loop-u.invariant in
    let l : length q.chosen.words ≡ 4 = search rules in
    let some : 0 < card 128 s = some_marks (card 128 s) c.if-is_empty.ensures in
    let found = lowest_all s rest (number_in q.k (agreed q) (members c.or-all.result)) nothing_yet c.loop-u.smallest over inv.4 in
    let plex = plex_by_misses q.k (agreed q) s (passed_all (MissesFew q.k (agreed q) s) s rest over inv.3) in
    let lowest = subst (λ all. Lowered s (number_in q.k (agreed q) all) nothing_yet c.loop-u.smallest) c.or-all.ensures found in
    record {
      passes = λ r n. (plex, lowest);
      finds =
          degree_found q.k (agreed q) s (members q.others) (holds_within q.chosen.words l) (sym c.if-not-in_range.ensures) some c.loop-u.smallest
          (plex, lowest);
    }
