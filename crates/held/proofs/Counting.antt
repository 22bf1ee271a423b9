-- How many steps a branch can take, with no candidate and with so many that the count is at the cap.
use Rattle.std.proofs.Common.{◌≡◌, ℕ, ◌≤◌, refl, arith}
use Rattle.searching.specs.States.{steps_for, cap, capped}
use Rattle.searching.proofs.Branches.{steps_for_is, steps_for_mono}

pub steps_for_none : steps_for 0 ≡ 1
unfolding steps_for
steps_for_none = refl

-- with 31 candidates the count is the cap, and with more it is no smaller
pub steps_for_many : (c : ℕ) → 31 ≤ c → capped (steps_for c) ≡ cap
steps_for_many c h = omega (arith, steps_for_is 31, steps_for_mono 31 c h)
