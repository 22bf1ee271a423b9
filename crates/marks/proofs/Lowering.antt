-- A set without its lowest mark has fewer marks.
use Rattle.std.proofs.Common.{◌≡◌, ℕ, ◌<◌, true, ap, arith}
use Rattle.plex.specs.Sets.{card, only, ◌∖◌}
use Rattle.plex.proofs.Count.{card_less}
use Rattle.marks.specs.declared.set.MarkSet.{MarkSet}
use Rattle.marks.specs.Members.{members}

pub fewer_without : (s t : MarkSet) (u : ℕ) → u < 128 → members s u ≡ true → members t ≡ members s ∖ only u → t.count < s.count
fewer_without s t u l e f = omega (arith, s.counted, t.counted, ap (card 128) f, card_less 128 (members s) u l e)
