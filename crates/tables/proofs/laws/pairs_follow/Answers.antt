use Rattle.tables.proofs.Determined.{words_follow}
use Rattle.tables.proofs.laws.pairs_follow.Goals as goal

pub returns : goal.returns
returns c = λ s t e n a.
    words_follow s.words t.words s.len t.len s.marks t.marks s.each t.each s.rising t.rising n a e
