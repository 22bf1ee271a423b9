use Rattle.std.proofs.Common.{◌≡◌, max, length, take, fold, refl, ◌∙◌, le_refl, arith, rules}
use Rattle.plex.specs.Sets.{card}
use Rattle.search.proofs.Telling.{held_count, width, widest_of}
use Rattle.search.proofs.searches.Search.report.Goals as goal

pub returns : goal.returns
returns g c =
    let s = c.args.self.now in
    let long : length s.branches ≡ 129 = search rules in
    let size : c.count-size.result ≡ card s.sheet.marks _ = c.count-size.ensures ∙ held_count s in
    let most : c.fold-most.result ≡ fold (λ most b. max most (width b)) c.count-size.result (take s.count s.branches) = search rules in
    (size, omega (arith, c.min.ensures, most, widest_of s long c.count-size.result s.count (le_refl s.count)), refl)
