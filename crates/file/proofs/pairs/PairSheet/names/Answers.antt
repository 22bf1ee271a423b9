use Rattle.std.proofs.Common.{ap, ◌∙◌, ap₂, arith}
use Rattle.plex.specs.Sets.{among}
use Rattle.fileword.specs.Layout.{pair_word}
use Rattle.file.proofs.Naming.{among_contains}
use Rattle.file.proofs.pairs.PairSheet.names.Goals as goal

pub returns : goal.returns
returns c =
    let ws = c.args.self.now.words.now in
    let e = c.word_of_pair.ensures ∙ ap₂ pair_word (omega (arith, c.requires.0)) (omega (arith, c.requires.1)) in
    among_contains ws c.word_of_pair.result c.contains.result c.contains.ensures.cases ∙ ap (among ws) e
