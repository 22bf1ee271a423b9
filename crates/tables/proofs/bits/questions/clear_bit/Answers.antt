use Rattle.std.proofs.Common.{◌≡◌, length, rules}
use Rattle.marks.proofs.Four.{holds_bit_cleared}
use Rattle.tables.proofs.bits.questions.clear_bit.Goals as goal

pub returns : goal.returns
returns c =
    let l : length c.args.row.now ≡ 4 = search rules in
    holds_bit_cleared c.args.row.now c.args.mark l c.requires
