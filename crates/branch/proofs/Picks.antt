-- The best mark of a set, by which a branch may be split.
use Rattle.std.proofs.Common.{◌≡◌, ℕ, ◌-◌, Option, sym}
use Rattle.plex.specs.Sets.{Set, Agreement, ◌∪◌}
use Rattle.plex.specs.Least.{Least, least}
use Rattle.plex.proofs.Least.{least_is, least_unique}
use Rattle.searching.specs.First.{agreements_inside}
use Rattle.searching.specs.Computed.{pick_from}

-- there is one best mark of p
pub picked_from : (a : Agreement) (s c p : Set) (o : Option ℕ) → Least 128 p (λ v. 128 - agreements_inside 128 a (s ∪ c) v) o → o ≡ pick_from 128 a s c p
picked_from a s c p o h =
    let short : ℕ → ℕ = λ v. 128 - agreements_inside 128 a (s ∪ c) v in
    sym (least_unique 128 p short (least 128 p short) o (least_is 128 p short) h)
