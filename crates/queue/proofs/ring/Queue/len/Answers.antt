-- As many wait as the queue counts.
use Rattle.std.proofs.Common.{sym}
use Rattle.queue.proofs.Lengths.{waiting_length}
use Rattle.queue.proofs.ring.Queue.len.Goals as goal

pub returns : goal.returns
returns g c = sym (waiting_length c.args.self.now)
