use Rattle.searching.proofs.Theorems.{offers_are_taken_lem}
use Rattle.searching.proofs.offers_are_taken.Goals as goal

pub returns : goal.returns
returns c = offers_are_taken_lem
