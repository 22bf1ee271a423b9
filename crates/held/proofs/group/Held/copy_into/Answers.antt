use Rattle.std.proofs.Common.{arith}
use Rattle.plex.proofs.Count.{card_le}
use Rattle.held.specs.Groups.{held_set}
use Rattle.held.proofs.group.Held.copy_into.Goals as goal

pub shared_ref_as_front-copy_from_slice : goal.shared_ref_as_front-copy_from_slice
shared_ref_as_front-copy_from_slice c = omega (arith, c.count-count.ensures, card_le 128 (held_set c.args.self.now))
