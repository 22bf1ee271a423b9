-- One byte more: where there is room it stands behind the text, and where there is none the text stays.
use Rattle.std.proofs.Common.{arith}
use Rattle.text.proofs.Fits.{push_fits, push_left_out}
use Rattle.text.proofs.page.Page.push.Goals as goal

pub returns-then-self-lt-ROOM : goal.returns-then-self-lt-ROOM
returns-then-self-lt-ROOM c =
    let p = c.args.self.now in push_fits 512 p.len p.bytes c.args.b (omega arith) (omega arith)

pub returns-else-self-lt-ROOM : goal.returns-else-self-lt-ROOM
returns-else-self-lt-ROOM c =
    let p = c.args.self.now in push_left_out 512 p.len p.bytes _ (omega arith) (omega arith) (omega arith)
