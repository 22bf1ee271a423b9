use Rattle.std.proofs.Common.{sym, refl, ap, ◌∙◌}
use Rattle.plex.specs.Sets.{card, none}
use Rattle.plex.proofs.Count.{card_none}
use Rattle.marks.proofs.First.{zeros_none}
use Rattle.marks.proofs.set.MarkSet.empty.Goals as goal

pub invariant_of-result : goal.invariant_of-result
invariant_of-result c = record { counted = sym (ap (card 128) zeros_none ∙ card_none 128 none (λ i _. refl)) }

pub returns : goal.returns
returns c = zeros_none
