-- Co-pruning in rounds, each of which strikes all that offends: a way to compute what is left. Assumes nothing.
use Rattle.std.specs.Prelude.{ℕ, zero, suc, ◌&&◌, nat_le}
use Rattle.plex.specs.Sets.{Agreement, card, ◌∩◌}

abbrev pub one_round : ℕ → ℕ → ℕ → Agreement → Agreement
one_round n a b g i j = g i j && (nat_le a (card n (g i)) && (nat_le a (card n (g j)) && nat_le b (card n (g i ∩ g j))))

unfoldable pub rounds : ℕ → ℕ → ℕ → ℕ → Agreement → Agreement
rounds zero n a b g = g
rounds (suc m) n a b g = rounds m n a b (one_round n a b g)
