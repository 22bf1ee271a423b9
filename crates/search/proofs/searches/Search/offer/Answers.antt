use Rattle.std.proofs.Common.{◌≡◌, ◌<◌, sym, ap, ◌∙◌, subst, arith}
use Rattle.plex.specs.Sets.{card, among, Within}
use Rattle.plex.specs.Words.{holds}
use Rattle.marks.specs.Members.{members}
use Rattle.searching.specs.States.{held_size}
use Rattle.searching.proofs.Forming.{formed_offer}
use Rattle.searching.proofs.Offering.{rising_in}
use Rattle.search.specs.View.{view}
use Rattle.search.proofs.View.{formed}
use Rattle.search.proofs.Stacks.{passes_from}
use Rattle.search.proofs.searches.Search.offer.Goals as goal

pub invariant_of-self : goal.invariant_of-self
invariant_of-self g c =
    let me = c.args.self.now in
    let s = view g.R.CeilingRule.number me in
    let list = c.args.marks.now in
    let judged = c.in_ok-group.ensures in
    let words = c.of-self.result.set.words in
    let same : holds words ≡ among list = ap members c.of-self.ensures ∙ judged.1 in
    let larger : held_size s < card me.sheet.marks (holds words) = omega (arith, judged.0.larger, ap (card me.sheet.marks) same) in
    let f = formed_offer s (formed g.R.CeilingRule.number me) (holds words) larger in
    let within : Within me.sheet.marks (holds words) = subst (Within me.sheet.marks) (sym same) (rising_in me.sheet.marks list judged.0.rising_marks) in
    let p = passes_from me.branches me.count me.sheet.marks me.k me.table.rows words f.branches f.stacked within in record {
      alike = me.alike;
      chosens = me.chosens;
      candidates = me.candidates;
      apart = me.apart;
      plex = p.plex;
      ordered = me.ordered;
      inside = p.inside;
    }
