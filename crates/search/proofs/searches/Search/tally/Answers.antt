use Rattle.std.proofs.Common.{◌≡◌, ◌+◌, length, take, fold, refl, ◌∙◌, le_refl, rules}
use Rattle.searching.specs.States.{capped}
use Rattle.search.proofs.Telling.{own_steps, steps_of}
use Rattle.search.proofs.searches.Search.tally.Goals as goal

pub returns : goal.returns
returns g c =
    let s = c.args.self.now in
    let long : length s.branches ≡ 129 = search rules in
    let left : c.fold-left.result ≡ fold (λ left b. capped (left + own_steps b)) 0 (take s.count s.branches) = search rules in
    (c.as_capped.ensures, left ∙ steps_of s long s.count (le_refl s.count), c.is_settled.ensures, refl)
