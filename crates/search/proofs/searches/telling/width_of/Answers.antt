use Rattle.std.proofs.Common.{arith}
use Rattle.plex.specs.Words.{holds}
use Rattle.plex.proofs.Count.{card_le}
use Rattle.marks.specs.Members.{members}
use Rattle.search.proofs.searches.telling.width_of.Goals as goal

pub overflow_add-result : goal.overflow_add-result
overflow_add-result c =
    omega (
      arith,
      c.count.ensures,
      c.candidates_in.ensures,
      card_le 128 (members c.from_words.result),
      card_le 128 (holds c.args.branch.candidates),
    )
