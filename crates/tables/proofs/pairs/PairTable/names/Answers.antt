use Rattle.std.proofs.Common.{ap, ◌∙◌, ap₂, arith}
use Rattle.plex.specs.Sets.{among}
use Rattle.fileword.specs.Layout.{pair_word}
use Rattle.tables.proofs.Places.{found_test}
use Rattle.tables.proofs.pairs.PairTable.names.Goals as goal

pub returns : goal.returns
returns c =
    let t = c.args.self.now in
    let e = c.word_of_pair.ensures ∙ ap₂ pair_word (omega (arith, c.requires.0)) (omega (arith, c.requires.1)) in
    c.is_some.ensures ∙ found_test t.words t.len c.word_of_pair.result c.find.result c.find.ensures ∙ ap (among t.words) e
