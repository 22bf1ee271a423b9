use Rattle.std.proofs.Common.{◌<◌, ◌≤◌, sym, ap, ◌∙◌, inl, inr, arith}
use Rattle.std.proofs.lemmas.Bool.{cases_lt, both_ways}
use Rattle.plex.specs.Sets.{only, ◌∪◌}
use Rattle.plex.specs.Words.{holds}
use Rattle.plex.proofs.Below.{below_none, below_takes, below_skips, below_all}
use Rattle.marks.specs.Members.{members}
use Rattle.sheet.proofs.kinds.Sheet.row.Goals as goal
use Rattle.sheet.proofs.kinds.Sheet.row.Goals.{then-agree, else-agree}

pub loop-j-init : goal.loop-j-init
loop-j-init g c = c.empty-row.ensures ∙ sym (below_none ((g.Self.Sheet.meaning c.args.self.now).agrees c.args.i))

pub loop-j-preserved : goal.loop-j-preserved
loop-j-preserved g c =
    let m = g.Self.Sheet.meaning c.args.self.now in
    let s = m.agrees c.args.i in
    let j = c.loop-j.j in
    elim c.if-agree.branch [
      | then-agree w ↦
          (let k : j < 128 = omega (arith, c.marks-j-end.ensures, m.few) in
          ap members w.row-is ∙ w.with-row.ensures.inside k ∙ ap (λ t. t ∪ only j) c.loop-j.invariant
          ∙ below_takes s j (sym c.agree.ensures ∙ w.if-agree.true))
      | else-agree w ↦ ap members w.row-is ∙ c.loop-j.invariant ∙ below_skips s j (sym c.agree.ensures ∙ w.if-agree.false)
    ]

pub returns : goal.returns
returns g c =
    let m = g.Self.Sheet.meaning c.args.self.now in
    let i = c.args.i in
    let j = c.loop-j.j in
    let end : m.marks ≤ j = omega (arith, c.marks-j-end.ensures) in
    ap holds c.words.ensures ∙ c.loop-j.invariant
    ∙ below_all (m.agrees i) j (λ q t.
    elim (cases_lt q j) [
      | inl h ↦ h
      | inr h ↦ absurd (both_ways (m.agrees i q) (m.symmetric i q ∙ m.inside q i (omega arith)) t)
    ])
