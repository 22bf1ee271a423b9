-- The rest of the list, from the lowest mark that may come next, says what the whole list says.
use Rattle.std.proofs.Common.{◌≡◌, drop}
use Rattle.plex.specs.Sets.{among, ◌∪◌}
use Rattle.marks.specs.Members.{members}
use Rattle.searching.specs.Computed.{is_rising}
use Rattle.held.proofs.offered.set_of_rising.Given as goal

abbrev pub invariant-loop-mark : goal.invariant-loop-mark
invariant-loop-mark l =
    (is_rising l.limit l.lowest (drop l.mark-index l.list) ≡ is_rising l.limit 0 l.list)
    × (members l.set ∪ among (drop l.mark-index l.list) ≡ among l.list)
