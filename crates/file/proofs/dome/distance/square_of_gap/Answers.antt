use Rattle.std.proofs.Common.{◌≡◌, ◌*◌, ◌≤◌, ◌-ℤ◌, nat_abs, ap, mul-le-mul, arith, rules}
use Rattle.std.proofs.lemmas.Int.{ints}
use Rattle.file.proofs.dome.distance.square_of_gap.Goals as goal

pub returns : goal.returns
returns c =
    let is : c.abs_diff-gap.result ≡ nat_abs (c.args.a -ℤ c.args.b) = search rules in
    let gap : c.abs_diff-gap.result ≤ 16383 = omega (arith, ints, is, c.requires.0.0, c.requires.0.1, c.requires.1.0, c.requires.1.1) in
    record {
      value = ap (λ m. m * m) is;
      bound = mul-le-mul gap gap;
    }
