use Rattle.std.proofs.Common.{refl, Some}
use Rattle.fileword.specs.declared.files.Form.TheVariants.{Pairs}
use Rattle.fileword.proofs.Verdict.{good_or_refused}
use Rattle.file.proofs.Reading.{pairs_read}
use Rattle.file.proofs.pairs.PairSheet.read.Goals as goal

pub returns-in_err-judge-clause-accepts : goal.returns-in_err-judge-clause-accepts
returns-in_err-judge-clause-accepts c n k h = absurd (good_or_refused (Some Pairs) c.args.words.now _ _ (h, refl) c.in_err-judge.ensures)

pub returns-clause-reads : goal.returns-clause-reads
returns-clause-reads c = let g = c.in_ok-judge.ensures in pairs_read c.args.words.now c.in_ok-judge.field-0 g.0 g.1 _ refl
