-- Distances are the same both ways.
use Rattle.std.proofs.Common.{◌≡◌, ℕ, ◌+◌, ◌*◌, ℤ, ◌-ℤ◌, nat_abs, ap, ap₂, arith}
use Rattle.std.proofs.lemmas.Int.{ints}
use Rattle.plex.specs.Distance.{Point, Sighting, square_between, distance², close_enough, sighted_alike}

gap_both_ways : (a b : ℤ) → nat_abs (a -ℤ b) ≡ nat_abs (b -ℤ a)
gap_both_ways a b = omega (arith, ints)

square_both_ways : (a b : ℤ) → square_between a b ≡ square_between b a
square_both_ways a b = ap (λ m. m * m) (gap_both_ways a b)

pub distance_both_ways : (p q : Point) → distance² p q ≡ distance² q p
distance_both_ways p q =
    ap₂ ◌+◌ (ap₂ ◌+◌ (square_both_ways p.x q.x) (square_both_ways p.y q.y)) (square_both_ways p.z q.z)

pub sighted_both_ways_lem : (tolerance : ℕ) (u v : Sighting) → sighted_alike tolerance u v ≡ sighted_alike tolerance v u
sighted_both_ways_lem tolerance u v =
    ap₂ (close_enough tolerance) (distance_both_ways u.planned v.planned) (distance_both_ways u.seen v.seen)
