use Rattle.std.proofs.Common.{◌≡◌, ◌/◌, ◌%◌, length, get_or, sym, ◌∙◌, arith, rules}
use Rattle.std.proofs.lemmas.Bool.{le-ltb}
use Rattle.plex.proofs.Words.{bit_test}
use Rattle.marks.proofs.Four.{holds_past}
use Rattle.marks.proofs.set.MarkSet.has.Goals as goal

pub returns-then-mark-lt128 : goal.returns-then-mark-lt128
returns-then-mark-lt128 c =
    record {
      inside = bit_test (get_or c.args.self.words (c.args.mark / 32) 0) (c.args.mark % 32);
      outside = λ h. absurd (omega (arith, c.if-mark-lt128.true));
    }

pub returns-else-mark-lt128 : goal.returns-else-mark-lt128
returns-else-mark-lt128 c =
    let l : length c.args.self.words ≡ 4 = search rules in
    let no = le-ltb c.args.mark 128 c.if-mark-lt128.false in
    record {
      inside = no ∙ sym (holds_past c.args.self.words l c.args.mark c.if-mark-lt128.false);
      outside = λ _. no;
    }
