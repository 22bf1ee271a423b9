use Rattle.std.proofs.Common.{true, false, ◌&&◌, leb, ltb, rules, ◌≡◌, ◌<◌, ◌≤◌, min, length, get_or, sym, refl, ap, ◌∙◌, subst, arith}
use Rattle.std.proofs.lemmas.Bool.Decides.{nat_tests}
use Rattle.std.proofs.lemmas.Bool.{true≢false, and_parts, ltb-true}
use Rattle.plex.specs.Sets.{among, ◌∪◌}
use Rattle.marks.specs.Members.{members}
use Rattle.searching.specs.Calls.{RisingMarks}
use Rattle.searching.proofs.Offering.{rising_test, test_rising}
use Rattle.held.proofs.Reading.{rises_on, rises_no_more, rises_to_end, taken_in, all_taken_in}
use Rattle.held.proofs.offered.set_of_rising.Goals as goal

pub loop-mark-init : goal.loop-mark-init
loop-mark-init c = (refl, ap (λ s. s ∪ among c.args.list.now) c.empty-set.ensures)

pub returns-then-not-contains : goal.returns-then-not-contains
returns-then-not-contains c =
    let list = c.args.list.now in
    let limit = c.min-limit.result in
    let i = c.loop-mark.mark-index in
    let x = get_or list i 0 in
    let e : limit ≡ min c.args.n 128 = c.min-limit.ensures in
    let h : i < length list = omega arith in
    let wrong : (leb c.loop-mark.lowest x && ltb x limit) ≡ false = grind (arith, nat_tests) in
    λ r. true≢false (sym (test_rising limit list (subst (λ n. RisingMarks n list) (sym e) r)) ∙ sym c.loop-mark.invariant.0 ∙ rises_no_more limit c.loop-mark.lowest list i h wrong)

pub loop-mark-preserved : goal.loop-mark-preserved
loop-mark-preserved c =
    let list = c.args.list.now in
    let limit = c.min-limit.result in
    let i = c.loop-mark.mark-index in
    let x = get_or list i 0 in
    let h : i < length list = omega arith in
    let right : (leb c.loop-mark.lowest x && ltb x limit) ≡ true = search rules in
    let few : x < 128 = omega (arith, c.min-limit.ensures, ltb-true x limit (and_parts (leb c.loop-mark.lowest x) (ltb x limit) right).1) in (
      sym (rises_on limit c.loop-mark.lowest list i h right) ∙ c.loop-mark.invariant.0,
      sym (taken_in (members c.loop-mark.set) (members c.with-set.result) list i h (c.with-set.ensures.inside few)) ∙ c.loop-mark.invariant.1,
    )

pub returns : goal.returns
returns c =
    let list = c.args.list.now in
    let limit = c.min-limit.result in
    let i = c.loop-mark.mark-index in
    let e : limit ≡ min c.args.n 128 = c.min-limit.ensures in
    let end : length list ≤ i = omega arith in (
      subst (λ n. RisingMarks n list) e (rising_test limit list (sym c.loop-mark.invariant.0 ∙ rises_to_end limit c.loop-mark.lowest list i end)),
      sym (all_taken_in (members c.loop-mark.set) list i end) ∙ c.loop-mark.invariant.1,
    )
