use Rattle.std.proofs.Common.{ap, ◌∙◌}
use Rattle.plex.specs.Sets.{card}
use Rattle.plex.specs.Words.{holds}
use Rattle.plex.proofs.Within.{row_count}
use Rattle.sheet.proofs.kinds.neighbours.Goals as goal

pub returns : goal.returns
returns g c =
    let set = ap holds c.from_words.ensures ∙ c.row.ensures in
    record { set = set; number = ap (card 128) set ∙ row_count (g.S.Sheet.meaning c.args.sheet.now) c.args.i }
