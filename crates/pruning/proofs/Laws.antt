-- The laws, put together from their lemmas.
use Rattle.std.proofs.Common.{◌*◌}
use mathlib.Core.Path.{fun_ext}
use Rattle.pruning.specs.Laws.{CoPruning}
use Rattle.pruning.specs.Rounds.{rounds}
use Rattle.pruning.proofs.Striking.{largest_unique, strike_keeps, plex_stays, plex_up}
use Rattle.pruning.proofs.Rounds.{prune_is, total_le}

pub co_pruning : CoPruning
co_pruning = record {
  exists = λ n a b r w s. (rounds (n * n) n a b r, prune_is n a b (n * n) r w s (total_le n r));
  by_rounds = λ n a b r w s. prune_is n a b (n * n) r w s (total_le n r);
  unique = λ n a b r g h p q. fun_ext (λ i. fun_ext (λ j. largest_unique n a b r g h p q i j));
  safe = strike_keeps;
  keeps = plex_stays;
  adds_none = plex_up;
}
