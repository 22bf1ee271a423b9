use Rattle.std.proofs.Common.{leb, ap, ◌∙◌, rules, tests}
use Rattle.std.specs.List.{list_all}
use Rattle.std.proofs.lemmas.Iterator.Search.{all_from_yields_List}
use Rattle.plex.specs.Sets.{rising}
use Rattle.marks.specs.Members.{members}
use Rattle.marks.proofs.Coming.{comes}
use Rattle.tables.specs.Meanings.{bit_meaning}
use Rattle.ceiling.specs.Formulas.{misses}
use Rattle.branch.proofs.Listing.{plex_test}
use Rattle.branch.proofs.plexes.is_kplex.Goals as goal

pub returns : goal.returns
returns c =
    let a = (bit_meaning c.args.table.now).agrees in
    let k = c.args.k in
    let s = members c.args.set in
    all_from_yields_List (λ u. leb (misses 128 a s u) k) _ _ c.all.result c.all.ensures.ran (comes c.rising.result) (λ x b q h. search (rules, tests))
    ∙ ap (λ m. list_all (λ u. leb (misses 128 a s u) k) (rising 128 (members m))) c.rising.ensures
    ∙ plex_test k a s
