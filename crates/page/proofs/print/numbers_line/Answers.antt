use Rattle.std.proofs.Common.{◌≤◌, [], ◌∷◌, ◌++◌, length, decimal, ◌∙◌, append_assoc, arith, length-append}
use Rattle.std.proofs.lemmas.Fmt.{length-decimal-le}
use Rattle.std.proofs.lemmas.List.{take_all}
use Rattle.text.proofs.Fits.{pushed}
use Rattle.page.proofs.print.numbers_line.Goals as goal

pub returns : goal.returns
returns c =
    let a = c.args.start.now in
    let b = c.args.middle.now in
    let m = decimal c.args.m in
    let n = decimal c.args.n in
    let few = length-decimal-le 20 c.args.m (omega arith) (omega arith) (omega arith) in
    let few' = length-decimal-le 20 c.args.n (omega arith) (omega arith) (omega arith) in
    let one = pushed 512 [] a c.new-page.ensures c.push_bytes.ensures in
    let two = pushed 512 a m one c.push_number.ensures in
    let three = pushed 512 (a ++ m) b two c.push_bytes-2.ensures in
    let four = pushed 512 (a ++ m ++ b) n three c.push_number-2.ensures in
    let five = pushed 512 (a ++ m ++ b ++ n) (10 ∷ []) four c.push_bytes-3.ensures in
    let short : length (a ++ m ++ b ++ n ++ 10 ∷ []) ≤ 512 = simp length-append (omega (arith, c.requires.0, c.requires.1)) in
    five ∙ take_all 512 _ short ∙ simp append_assoc
