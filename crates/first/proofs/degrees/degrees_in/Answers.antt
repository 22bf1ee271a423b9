use Rattle.std.proofs.Common.{◌≡◌, ◌<◌, length, ap, ◌∙◌, arith}
use Rattle.std.proofs.lemmas.List.{length-set}
use Rattle.plex.specs.Sets.{card, ◌∩◌}
use Rattle.marks.specs.Members.{members}
use Rattle.tables.specs.Meanings.{bit_meaning}
use Rattle.rule.proofs.Passing.{passed_all}
use Rattle.first.specs.Degrees.{degree}
use Rattle.first.proofs.Writing.{written}
use Rattle.first.proofs.degrees.degrees_in.Goals as goal

pub loop-u-preserved : goal.loop-u-preserved
loop-u-preserved c =
    let a = (bit_meaning c.args.table.now).agrees in
    let s = members c.args.set in
    let came = c.in-Some.ensures.steps in
    let u = c.in-Some.u in
    let inv = c.loop-u.invariant in
    let number : c.count.result ≡ card 128 (s ∩ a u) = c.count.ensures ∙ ap (card 128) (c.and.ensures ∙ ap (λ t. s ∩ t) c.neighbours.ensures.set) in
    let in_table : u < length c.loop-u.degrees = omega (arith, came.1.0, inv.2) in (
      tt,
      tt,
      length-set c.loop-u.degrees u c.count.result ∙ inv.2,
      written c.loop-u.degrees u c.count.result (λ v. card 128 (s ∩ a v)) s (members c.loop-u.u-iterator.rest) (members c.next.new.self.rest) in_table came.2 number inv.3,
    )

pub returns : goal.returns
returns c =
    let a = (bit_meaning c.args.table.now).agrees in
    let s = members c.args.set in
    passed_all (λ u. degree c.loop-u.degrees u ≡ card 128 (s ∩ a u)) s (members c.loop-u.u-iterator.rest) c.in-None.ensures.steps.1 c.loop-u.invariant.3
