use Rattle.std.proofs.Common.{◌≡◌, ◌+◌, ◌++◌, map}
use Rattle.plex.specs.Sets.{below, rising, ◌∖◌}
use Rattle.fileword.specs.Layout.{pair_word}
use Rattle.marks.specs.Members.{members}
use Rattle.tables.specs.Copying.{listed}
use Rattle.tables.proofs.pairs.listing.PairList.add_row.Given as goal

-- the words with the marks below j were added
abbrev pub invariant-loop-j : goal.invariant-loop-j
invariant-loop-j l =
    listed l.self ≡ listed l.initial.self ++ map (pair_word l.i) (rising l.j (members l.row ∖ below (l.i + 1)))
