use Rattle.std.proofs.Common.{◌≡◌, length}
use Rattle.plex.specs.Sets.{card, ◌∩◌}
use Rattle.marks.specs.Members.{members}
use Rattle.tables.specs.Meanings.{bit_meaning}
use Rattle.rule.proofs.Passing.{Passed}
use Rattle.first.specs.Degrees.{degree}
use Rattle.first.proofs.degrees.degrees_in.Given as goal

abbrev pub invariant-loop-u : goal.invariant-loop-u
invariant-loop-u l =
    (goal.iterator-loop-u).can_next l.u-iterator
    × (goal.iterator-loop-u).is_finite l.u-iterator
    × (length l.degrees ≡ 128)
    × Passed (λ u. degree l.degrees u ≡ card 128 (members l.set ∩ (bit_meaning l.table).agrees u)) (members l.set) (members l.u-iterator.rest)
