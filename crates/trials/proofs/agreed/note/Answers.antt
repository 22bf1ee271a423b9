use Rattle.std.proofs.Common.{◌≡◌, length, rules}
use Rattle.trials.proofs.Noting.{place_noted}
use Rattle.trials.proofs.agreed.note.Goals as goal

pub returns : goal.returns
returns g c =
    let l : length c.args.row.now ≡ g.row.N = search rules in
    place_noted c.args.row.now c.args.at c.args.to (rw l c.requires)
