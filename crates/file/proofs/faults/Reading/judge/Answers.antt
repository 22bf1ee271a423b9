use Rattle.std.proofs.Common.{◌≡◌, ◌<◌, ℕ, rules, tests, arith, ap, None, Some, Option, IsSomeAnd, sym, ◌∙◌, subst, Ok}
use Rattle.std.proofs.iter.runs.Sources.{ranges}
use Rattle.fileword.specs.Faults.{faulty, Judged}
use Rattle.fileword.specs.declared.files.Summary.{Summary}
use Rattle.fileword.proofs.Verdict.{good_from_spotless}
use Rattle.file.proofs.Verdict.{spotless}
use Rattle.file.specs.Finding.{FindsAt}
use Rattle.file.proofs.faults.Reading.judge.Goals as goal

-- what is said of an item is said of its value
of_item : {A : Type 0} (o : Option A) (x : A) (P : A → Type 0) → o ≡ Some x → IsSomeAnd o P → P x
of_item None x P e h = absurd h
of_item (Some y) x P e h = subst (λ o. IsSomeAnd o P) e h

pub returns-in-Some : goal.returns-in-Some
returns-in-Some c =
    let ws = c.args.self.now.words.now in
    let w = c.args.self.now.wanted in
    let h = c.in-Some.ensures.runs in
    let i = h.2.0 in
    let at : (k : ℕ) → k < h.0.len → h.0.at k ≡ Some k = λ k l. search (rules, ranges) in
    let gives = h.2.3 (search (rules, tests)) in
    let here : FindsAt w ws i (Some c.in-Some.refusal) = (let g = of_item _ i _ (at i h.2.1) gives.0 in search (rules, tests)) in
    let before : (k : ℕ) → k < i → FindsAt w ws k None = λ k l. (let g = of_item _ k _ (at k (omega (arith, h.2.1))) (gives.1 k l) in search (rules, tests)) in
    record {
      clean = λ p l f. before p (omega (arith, here.place)) f;
      first = λ f l. ap (λ p. faulty w ws p f) here.place ∙ here.first f l;
      this = ap (λ p. faulty w ws p c.in-Some.refusal.fault) here.place ∙ here.this;
    }

pub returns-in-None-2 : goal.returns-in-None-2
returns-in-None-2 c =
    let ws = c.args.self.now.words.now in
    let clean = spotless c.args.self.now.wanted ws (λ p l f. search (rules, ranges)) (sym c.lacks_end.ensures ∙ c.if-lacks_end.false) in
    let P : Summary → Type 0 = λ f. Judged c.args.self.now.wanted ws (Ok f) in
    subst P (sym c.summary.ensures) (good_from_spotless c.args.self.now.wanted ws clean)
