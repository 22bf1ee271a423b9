use Rattle.std.proofs.Common.{◌≡◌, ◌≤◌, min, length, take, ◌∙◌, ap, arith, rules}
use mathlib.Core.Path.{fun_ext}
use Rattle.plex.specs.Meaning.{agree_by}
use Rattle.fileword.specs.Layout.{pair_word}
use Rattle.pairing.specs.Naming.{names}
use Rattle.tables.proofs.Among.{among_front}
use Rattle.tables.proofs.Places.{stands_zero}
use Rattle.tables.proofs.pairs.questions.PairTableSheet.row.Goals as goal

pub returns : goal.returns
returns c =
    let t = c.args.self.now in
    let few : min t.marks 128 ≡ t.marks = omega (arith, t.few) in
    let l : length t.words ≡ 4096 = search rules in
    let room : t.len ≤ length t.words = omega (arith, t.room) in
    c.row_among.ensures ∙ ap (λ n. agree_by n (names (take t.len t.words)) c.args.i) few
    ∙ ap (λ r. agree_by t.marks r c.args.i)
    (fun_ext (λ a. fun_ext (λ b.
    among_front t.words t.len (pair_word a b) room (omega arith) (λ q h. stands_zero t.words t.len t.marks q (t.each q) h))))
