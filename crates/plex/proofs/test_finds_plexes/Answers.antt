use Rattle.plex.proofs.Laws.{test_finds_plexes_lem}
use Rattle.plex.proofs.test_finds_plexes.Goals as goal

pub returns : goal.returns
returns c = test_finds_plexes_lem
