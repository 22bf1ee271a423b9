use Rattle.std.proofs.Common.{arith}
use Rattle.plex.proofs.Count.{card_le}
use Rattle.marks.specs.Members.{members}
use Rattle.rule.proofs.asked.Asked.all_marks.Goals as goal

pub overflow_add-result : goal.overflow_add-result
overflow_add-result c =
    omega (arith, c.count.ensures, c.count-2.ensures, card_le 128 (members c.args.self.chosen), card_le 128 (members c.args.self.others))
