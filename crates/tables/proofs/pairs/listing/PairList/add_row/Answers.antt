use Rattle.std.proofs.Common.{◌≡◌, ◌+◌, true, [], ◌∷◌, ◌++◌, sym, ap, ◌∙◌, ap₂, arith}
use Rattle.std.proofs.lemmas.Result.{err_from_is_err_and}
use Rattle.plex.specs.Sets.{below, ◌∖◌}
use Rattle.fileword.specs.Layout.{pair_word}
use Rattle.marks.specs.Members.{members}
use Rattle.tables.specs.Copying.{listed}
use Rattle.tables.proofs.PairLists.{row_none, row_more, row_same, row_mark, row_too_long}
use Rattle.tables.proofs.pairs.listing.PairList.add_row.Goals as goal
use Rattle.tables.proofs.pairs.listing.PairList.add_row.Goals.{then-has+in_ok-push, else-has}

pub loop-j-init : goal.loop-j-init
loop-j-init c = row_none (listed c.args.self.now) c.args.i (members c.args.row)

pub returns-in_err-push : goal.returns-in_err-push
returns-in_err-push c =
    let i = c.args.i in
    let j = c.loop-j.j in
    let s = members c.args.row in
    let there : (s ∖ below (i + 1)) j ≡ true = row_mark s i j c.loop-j.auto.j ∙ sym c.has.ensures.inside ∙ c.if-has.true in
    let r = row_too_long (listed c.args.self.now) (listed c.loop-j.self) i j c.args.marks (s ∖ below (i + 1)) c.loop-j.invariant c.in_err-push.ensures c.loop-j-test.true there in
    rw (err_from_is_err_and c.from_residual.result c.from_residual.ensures.1).1 r

pub loop-j-preserved : goal.loop-j-preserved
loop-j-preserved c =
    let i = c.args.i in
    let j = c.loop-j.j in
    let s = members c.args.row in
    let bit : (s ∖ below (i + 1)) j ≡ c.has.result = row_mark s i j c.loop-j.auto.j ∙ sym c.has.ensures.inside in
    elim c.if-has.branch [
      | then-has+in_ok-push w ↦
          (let word = w.word_of_pair.ensures ∙ ap₂ pair_word (omega (arith, c.requires)) (omega (arith, c.requires, c.loop-j-test.true)) in
          row_more (listed c.args.self.now) (listed c.loop-j.self) _ i j (s ∖ below (i + 1)) (bit ∙ w.if-has.true) c.loop-j.invariant
          (ap listed w.self-is ∙ w.in_ok-push.ensures ∙ ap (λ v. listed c.loop-j.self ++ v ∷ []) word))
      | else-has w ↦
          ap listed w.self-is ∙ c.loop-j.invariant ∙ row_same (listed c.args.self.now) i j (s ∖ below (i + 1)) (bit ∙ w.if-has.false)
    ]
