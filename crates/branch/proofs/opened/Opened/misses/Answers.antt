use Rattle.std.proofs.Common.{arith}
use Rattle.plex.proofs.Count.{card_le}
use Rattle.marks.specs.Members.{members}
use Rattle.branch.specs.Opened.{agreed}
use Rattle.rule.proofs.Plexes.{misses_counted}
use Rattle.branch.proofs.opened.Opened.misses.Goals as goal

pub returns-clause-number : goal.returns-clause-number
returns-clause-number c = misses_counted (agreed c.args.self) (members c.args.self.chosen) c.args.mark c.neighbours.ensures.set c.minus.ensures c.count.ensures

pub returns-clause-few : goal.returns-clause-few
returns-clause-few c = omega (arith, c.count.ensures, card_le 128 (members c.minus.result))
