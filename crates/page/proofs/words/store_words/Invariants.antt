use Rattle.std.proofs.Common.{◌≡◌, ◌*◌, take}
use Rattle.std.specs.List.{flat_map}
use Rattle.page.specs.Bytes.{word_bytes}
use Rattle.page.proofs.words.store_words.Given as goal

abbrev pub invariant-loop-i : goal.invariant-loop-i
invariant-loop-i l = flat_map word_bytes (take l.i l.words) ≡ take (4 * l.i) l.bytes
