use Rattle.std.proofs.Common.{◌-◌, sym, ap, subst, arith}
use Rattle.plex.specs.Words.{holds}
use Rattle.searching.specs.Trimming.{Trimmed}
use Rattle.marks.specs.Members.{members}
use Rattle.branch.specs.Agreeing.{LargestAgreeing}
use Rattle.branch.specs.Opened.{agreed}
use Rattle.branch.proofs.Opening.{as_opened}
use Rattle.branch.proofs.Trims.{trimmed_by_joining, trimmed_by_both}
use Rattle.branch.proofs.branches.Branch.trim.Goals as goal
use Rattle.branch.proofs.branches.Branch.trim.Goals.{then-k-held, else-k-held}

pub returns-clause-trimmed : goal.returns-clause-trimmed
returns-clause-trimmed c =
    let o = c.of-opened in
    let q = o.result in
    let h = c.args.held in
    let s = members q.chosen in
    let d = members q.candidates in
    let joined = members c.joinable-fitting.result in
    let left : Trimmed 128 q.k (agreed q) h s d (members c.if-k-held.fitting) =
    elim c.if-k-held.branch [
      | then-k-held w ↦
          (let largest = subst (λ r. LargestAgreeing (h - c.args.k) (agreed r) (members r.chosen) (members r.candidates) (members w.agreeing_enough-fitting.result)) w.narrowed.ensures w.agreeing_enough-fitting.ensures in
          subst (λ e. Trimmed 128 q.k (agreed q) h s d e) (sym (ap members w.fitting-is))
          (trimmed_by_both q.k (agreed q) h s d joined c.joinable-fitting.ensures (members w.agreeing_enough-fitting.result) (omega (arith, o.ensures.k, w.if-k-held.true))
          (subst (λ x. LargestAgreeing (h - x) (agreed q) s joined (members w.agreeing_enough-fitting.result)) (sym o.ensures.k) largest)))
      | else-k-held w ↦
          subst (λ e. Trimmed 128 q.k (agreed q) h s d e) (sym (ap members w.fitting-is))
          (trimmed_by_joining q.k (agreed q) h s d joined c.joinable-fitting.ensures (omega (arith, o.ensures.k, w.if-k-held.false)))
    ] in
    subst (Trimmed 128 c.args.k _ h (holds c.args.self.now.chosen) (holds c.args.self.now.candidates)) (sym (ap holds c.words-self.ensures))
    (as_opened (λ k a x y. Trimmed 128 k a h x y (members c.if-k-held.fitting)) q c.args.k c.args.table.now (holds c.args.self.now.chosen) (holds c.args.self.now.candidates)
    o.ensures.k o.ensures.table o.ensures.chosen o.ensures.candidates left)
