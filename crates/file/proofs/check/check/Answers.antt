use Rattle.std.proofs.Common.{Ok, refl, None}
use Rattle.fileword.proofs.Verdict.{one_verdict}
use Rattle.file.proofs.check.check.Goals as goal

pub returns : goal.returns
returns c =
    let ws = c.args.words.now in
    record {
      verdict = c.judge.ensures;
      accepts = λ f g. one_verdict None ws c.judge.result (Ok f) c.judge.ensures (g, refl);
    }
