use Rattle.std.proofs.Common.{arith}
use Rattle.plex.proofs.Count.{card_le}
use Rattle.marks.specs.Members.{members}
use Rattle.search.proofs.searches.stepping.outcome_of.Goals as goal

pub overflow_add-count : goal.overflow_add-count
overflow_add-count g c = omega (arith, c.count.ensures, c.count-2.ensures, card_le 128 (members c.from_words-chosen.result), card_le 128 (members c.from_words-candidates.result))
