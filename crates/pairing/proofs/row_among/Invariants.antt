use Rattle.std.proofs.Common.{◌≡◌, take}
use Rattle.plex.specs.Meaning.{agree_by}
use Rattle.marks.specs.Members.{members}
use Rattle.pairing.specs.Naming.{names}
use Rattle.pairing.proofs.row_among.Given as goal

-- the marks that the words so far pair with i
abbrev pub invariant-loop-word : goal.invariant-loop-word
invariant-loop-word l = members l.row ≡ agree_by l.few (names (take l.word-index l.words)) l.i
