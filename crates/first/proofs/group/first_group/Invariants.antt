use Rattle.std.proofs.Common.{◌≡◌, length}
use Rattle.plex.specs.Sets.{Within}
use Rattle.marks.specs.Members.{members}
use Rattle.tables.specs.Meanings.{bit_meaning}
use Rattle.first.specs.Degrees.{HasDegrees}
use Rattle.first.proofs.Peeling.{Onward}
use Rattle.first.proofs.group.first_group.Given as goal

abbrev pub invariant-loop-u : goal.invariant-loop-u
invariant-loop-u l =
    Within (bit_meaning l.table).marks (members l.group)
    × (length l.degrees ≡ 128)
    × HasDegrees (bit_meaning l.table).agrees (members l.group) l.degrees
    × Onward (bit_meaning l.table).marks l.k (bit_meaning l.table).agrees (members l.group) l.top

abbrev pub decreases-loop-u : goal.decreases-loop-u
decreases-loop-u l = l.group.count
