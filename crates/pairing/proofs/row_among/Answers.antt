use Rattle.std.proofs.Common.{◌≤◌, length, take, sym, ap, ◌∙◌, ap₂, arith}
use Rattle.std.proofs.lemmas.List.{take_all}
use Rattle.plex.specs.Sets.{◌∪◌}
use Rattle.plex.specs.Words.{holds}
use Rattle.plex.specs.Meaning.{agree_by}
use Rattle.marks.specs.Members.{members}
use Rattle.pairing.specs.Naming.{names}
use Rattle.pairing.proofs.Naming.{named_none, named_more, or_none}
use Rattle.pairing.proofs.row_among.Goals as goal
use Rattle.pairing.proofs.row_among.Goals.{in-Some, in_default}

pub loop-word-init : goal.loop-word-init
loop-word-init c = c.empty-row.ensures ∙ sym (named_none c.min-few.result c.args.i)

pub loop-word-preserved : goal.loop-word-preserved
loop-word-preserved c =
    let ws = c.args.words.now in
    let n = c.min-few.result in
    let p = c.loop-word.word-index in
    let i = c.args.i in
    let more = named_more ws p n i c.loop-word-test.true in
    elim c.match-partner.branch [
      | in-Some w ↦
          (let just = w.in-Some.ensures in
          ap members w.row-is ∙ w.with-row.ensures.inside just.0 ∙ ap₂ ◌∪◌ c.loop-word.invariant (sym just.1) ∙ sym more)
      | in_default w ↦
          (let nothing = w.in_default.ensures in
          ap members w.row-is ∙ c.loop-word.invariant ∙ sym (more ∙ or_none (agree_by n (names (take p ws)) i) _ nothing))
    ]

pub returns : goal.returns
returns c =
    let ws = c.args.words.now in
    let p = c.loop-word.word-index in
    let h : length ws ≤ p = omega arith in
    ap holds c.words.ensures ∙ c.loop-word.invariant
    ∙ ap₂ (λ n xs. agree_by n (names xs) c.args.i) c.min-few.ensures (take_all p ws h)
