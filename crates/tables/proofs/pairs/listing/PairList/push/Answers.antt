use Rattle.std.proofs.Common.{◌≡◌, length, arith, rules}
use Rattle.std.proofs.lemmas.List.{take_more_set}
use Rattle.tables.proofs.Places.{blank_pushed}
use Rattle.tables.proofs.pairs.listing.PairList.push.Goals as goal

pub invariant_of-self : goal.invariant_of-self
invariant_of-self c =
    let t = c.args.self.now in
    record { room = omega (arith, t.room); blank = λ p. blank_pushed t.words t.len c.args.word p t.blank }

pub returns : goal.returns
returns c =
    let t = c.args.self.now in
    let l : length t.words ≡ 4096 = search rules in
    take_more_set t.words t.len c.args.word (omega (arith, t.room))
