use Rattle.std.proofs.Common.{refl, sym, ◌∙◌, subst}
use Rattle.searching.specs.Calls.{CopiedOut}
use Rattle.search.specs.View.{view}
use Rattle.search.proofs.Telling.{copied_out}
use Rattle.search.proofs.searches.Search.copy_out.Goals as goal

pub returns : goal.returns
returns g c =
    let s = c.args.self.now in
    let number = g.R.CeilingRule.number in
    let places = c.args.places.now in
    let places' = c.copy_into.new.places in (
      subst (λ r. CopiedOut (view number s) places r places') (sym c.ok_or.ensures.value)
          (copied_out number s places places' c.copy_into.result (sym c.is_settled.ensures ∙ c.if-not-is_settled.false) c.copy_into.ensures),
      refl,
    )
