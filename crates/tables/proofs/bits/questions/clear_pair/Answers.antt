use Rattle.std.proofs.Common.{◌<◌, length, rules}
use Rattle.tables.proofs.Rows.{both_gone}
use Rattle.tables.proofs.bits.questions.clear_pair.Goals as goal

pub returns : goal.returns
returns c =
    let rows = c.args.rows.now in
    let i = c.args.i in
    let j = c.args.j in
    let l : i < length rows = search rules in
    let m : j < length rows = search rules in
    both_gone rows i j c.clear_bit.new.row c.clear_bit-2.new.row l m c.clear_bit.ensures c.clear_bit-2.ensures
