-- A coordinate in 14 bits, and back.
use Rattle.std.proofs.Common.{◌≡◌, ℕ, ◌-◌, ◌^◌, ◌<◌, ltb, ℤ, pos, negsuc, ap, ◌∙◌, inl, inr, arith}
use Rattle.std.proofs.lemmas.Int.{ints}
use Rattle.std.proofs.lemmas.Bool.{cases_lt, cond-true, cond-false, lt-ltb, le-ltb}
use Rattle.fileword.specs.Layout.{fourteen_bits, coordinate}
use Rattle.fileword.specs.Files.{Coordinate}

coordinate_low : (v : ℕ) → v < 8192 → coordinate v ≡ pos v
coordinate_low v h = cond-true (ltb v 8192) (pos v) (negsuc (16383 - v)) (lt-ltb v 8192 h)

coordinate_high : (v : ℕ) → 8191 < v → coordinate v ≡ negsuc (16383 - v)
coordinate_high v h = cond-false (ltb v 8192) (pos v) (negsuc (16383 - v)) (le-ltb v 8192 (omega arith))

-- every 14 bits are a coordinate
pub coordinate_within : (v : ℕ) → v < 2 ^ 14 → Coordinate (coordinate v)
coordinate_within v h =
    elim (cases_lt v 8192) [
      | inl l ↦ rw (coordinate_low v l) (omega (arith, ints), omega (arith, ints))
      | inr l ↦ rw (coordinate_high v l) (omega (arith, ints), omega (arith, ints))
    ]

pub bits_of_coordinate : (v : ℕ) → v < 2 ^ 14 → fourteen_bits (coordinate v) ≡ v
bits_of_coordinate v h =
    elim (cases_lt v 8192) [
      | inl l ↦ rw (coordinate_low v l)
      | inr l ↦ rw (coordinate_high v l) (omega arith)
    ]

-- and every coordinate is 14 bits
pub bits_below : (c : ℤ) → Coordinate c → fourteen_bits c < 2 ^ 14
bits_below (pos m) h = omega (arith, ints)
bits_below (negsuc m) h = omega arith

pub coordinate_of_bits : (c : ℤ) → Coordinate c → coordinate (fourteen_bits c) ≡ c
coordinate_of_bits (pos m) h = coordinate_low m (omega (arith, ints))
coordinate_of_bits (negsuc m) h =
    let l : m < 8192 = omega (arith, ints) in
    let e : 16383 - (16383 - m) ≡ m = omega arith in
    coordinate_high (16383 - m) (omega arith) ∙ ap negsuc e
