use Rattle.std.proofs.Common.{rules, ◌≡◌, ℕ, ◌≤◌, eqb, length, get_or, take, subst, sym, MatchOption, None, Some, Option, nat_cmp, arith}
use Rattle.std.specs.Bool.{then_some}
use Rattle.std.specs.List.Sorted.{IsBinarySearchResult}
use Rattle.std.proofs.lemmas.List.Sorted.{answers_always}
use Rattle.fileword.specs.Layout.{load}
use Rattle.tables.specs.Lookup.{Found}
use Rattle.tables.proofs.Places.{stands_zero, looked_up}
use Rattle.tables.proofs.pairs.PairTable.find.Goals as goal

-- what is known of a place that a search gives, and of none, is known of what a filter leaves of it
filtered : (o r : Option ℕ) (kept : ℕ → Option ℕ) (P : Option ℕ → Type 0) → MatchOption o (r ≡ None) (λ at. r ≡ kept at) →
    MatchOption o (P None) (λ at. P (kept at)) → P r
filtered None r kept P e h = subst P (sym e) h
filtered (Some at) r kept P e h = subst P (sym e) h

pub returns : goal.returns
returns c =
    let t = c.args.self.now in
    let w = c.args.word in
    let r = c.binary_search_by_key.result in
    let facts = c.binary_search_by_key.ensures in
    let by_load = facts.position load (answers_always _ _ _ (λ f a r g called. search rules)) in
    let zeros : (p : ℕ) → t.len ≤ p → get_or t.words p 0 ≡ 0 = λ p h. stands_zero t.words t.len t.marks p (t.each p) h in
    let long : length t.words ≡ 4096 = search rules in
    let all = looked_up t.words t.len t.rising w c.requires zeros r (omega (arith, t.room)) facts.bound
    (subst (λ l. IsBinarySearchResult (λ v. nat_cmp (load v) l) (take t.len t.words) r) c.load_of.ensures by_load) in
    let kept : MatchOption c.ok.result (c.filter.result ≡ None) (λ at. c.filter.result ≡ then_some (eqb (get_or (take t.len t.words) at 0) w) at) = search rules in
    filtered c.ok.result c.filter.result (λ at. then_some (eqb (get_or (take t.len t.words) at 0) w) at) (Found t.words t.len w) kept (rw c.ok.ensures.value all)
