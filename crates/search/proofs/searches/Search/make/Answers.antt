use Rattle.std.proofs.Common.{◌+◌, ◌-◌, ◌^◌, ◌≤◌, refl, arith, rules}
use Rattle.searching.proofs.Law.{the_law, law_meant}
use Rattle.search.specs.View.{view}
use Rattle.search.proofs.Tests.{starts_pass, starts_made}
use Rattle.search.proofs.searches.Search.make.Goals as goal

pub invariant_of-result : goal.invariant_of-result
invariant_of-result g c =
    let m = g.S.Sheet.meaning c.args.sheet.now in
    let k = c.args.k in
    let rule = g.R.CeilingRule.number c.args.rule in
    let s = c.first_state-top.result in
    let w = c.first_state-top.ensures.made in
    let p = starts_pass m k rule s w c.table_of-count.result.0 c.table_of-count.result.1 c.table_of-count.ensures in
    record {
      alike = w.alike;
      chosens = p.chosens;
      candidates = p.candidates;
      apart = p.apart;
      plex = p.plex;
      ordered = p.ordered;
      inside = p.inside;
    }

pub returns : goal.returns
returns g c =
    let m = g.S.Sheet.meaning c.args.sheet.now in
    let k = c.args.k in
    let number = g.R.CeilingRule.number in
    let rule = number c.args.rule in
    let s = c.first_state-top.result in
    let w = c.first_state-top.ensures.made in
    let low : 1 ≤ k = search rules in
    let high : k ≤ 16 = search rules in
    let made = starts_made m k rule s w c.table_of-count.result.0 c.table_of-count.result.1 c.table_of-count.ensures in
    let law = the_law m k rule low high (g.met.R.CeilingRule.lawful c.args.rule) _ made in
    record {
      makes = record {
        low = low;
        high = high;
        marks = omega (arith, c.marks.ensures, c.if-mark_space-marks.false);
        pairs = omega (arith, c.pair_places.ensures, c.if-pair_space-pair_places.false);
        rule_kept = refl;
        made = made;
        law = law_meant (view number) m.marks k m.agrees (2 ^ (m.marks + 1) - 1) _ law;
      };
      spaces = ((λ l. c.first_state-top.ensures.idle (w.closed rule l)), (λ _. (tt, tt)));
    }
