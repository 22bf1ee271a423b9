use Rattle.std.proofs.Common.{◌≡◌, ◌+◌, ◌-◌, ◌*◌, sym, ap, ◌∙◌, arith}
use Rattle.searching.specs.States.{steps_for, capped}
use Rattle.searching.proofs.Branches.{capped_for, steps_for_more}
use Rattle.held.proofs.Counting.{steps_for_none, steps_for_many}
use Rattle.held.proofs.steps.+steps_for.Goals as goal

pub returns-then-candidates-gt-MOST : goal.returns-then-candidates-gt-MOST
returns-then-candidates-gt-MOST t c = sym (steps_for_many c.args.candidates (omega arith))

pub returns-then-candidates-eq0 : goal.returns-then-candidates-eq0
returns-then-candidates-eq0 t c = sym (ap (λ x. capped (steps_for x)) c.if-candidates-eq0.true ∙ ap capped steps_for_none)

pub returns : goal.returns
returns t c =
    let fewer = c.args.candidates - 1 in
    let e : 1 + fewer ≡ c.args.candidates = omega arith in
    let sum : c.saturating_add.result ≡ capped (1 + 2 * capped (steps_for fewer)) =
    omega (arith, c.saturating_add.ensures, c.saturating_mul.ensures, c.steps_for.ensures) in
    sum ∙ capped_for (steps_for fewer) ∙ ap capped (sym (steps_for_more fewer)) ∙ ap (λ x. capped (steps_for x)) e
