-- Points of a dome, and when two measured marks agree. Assumes nothing.
use Rattle.std.specs.Prelude.{ℕ, ◌+◌, ◌-◌, ◌*◌, min, max, Bool, ℤ, ◌-ℤ◌, nat_le, unsigned_abs}

pub record Point : Type 0 where
  pub x : ℤ
  pub y : ℤ
  pub z : ℤ

-- a mark's planned point, and the point where the camera saw it
pub record Sighting : Type 0 where
  pub planned : Point
  pub seen : Point

-- the square of the difference of two coordinates
abbrev pub square_between : ℤ → ℤ → ℕ
square_between a b = unsigned_abs (a -ℤ b) * unsigned_abs (a -ℤ b)

-- the square of the distance between two points
abbrev pub distance² : Point → Point → ℕ
distance² p q = square_between p.x q.x + square_between p.y q.y + square_between p.z q.z

-- two squared distances, planned and seen, differ by at most the tolerance
abbrev pub close_enough : ℕ → ℕ → ℕ → Bool
close_enough tolerance d e = nat_le (max d e - min d e) tolerance

-- two marks agree if their planned points are as far from one another as their seen points, up to the tolerance
abbrev pub sighted_alike : ℕ → Sighting → Sighting → Bool
sighted_alike tolerance u v =
    close_enough tolerance (distance² u.planned v.planned) (distance² u.seen v.seen)
