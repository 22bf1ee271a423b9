use Rattle.plex.proofs.Distance.{sighted_both_ways_lem}
use Rattle.plex.proofs.sighted_both_ways.Goals as goal

pub returns : goal.returns
returns c = sighted_both_ways_lem
