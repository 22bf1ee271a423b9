use Rattle.std.proofs.Common.{eqb, sym, ap, ◌∙◌, not, rules, tests}
use Rattle.std.proofs.lemmas.Iterator.{YieldsList-from_slice}
use Rattle.std.proofs.lemmas.Iterator.Consumers.{YieldsList-from_copied}
use Rattle.std.proofs.lemmas.Iterator.Search.{any_from_yields_List}
use Rattle.fileword.specs.Layout.{kind}
use Rattle.file.proofs.Ends.{lacks_any}
use Rattle.file.proofs.faults.lacks_end.Goals as goal

pub returns : goal.returns
returns c =
    let ws = c.args.words.now in
    let any = any_from_yields_List (λ w. eqb (kind w) 15) _ _ _ c.any.ensures.ran
    (YieldsList-from_copied (YieldsList-from_slice ws cc)) (λ x b q k. search (rules, tests)) in
    ap not any ∙ sym (lacks_any ws)
