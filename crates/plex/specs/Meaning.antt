-- What a sheet of marks means, with what is true of every sheet. Assumes nothing.
use Rattle.std.specs.Prelude.{◌≡◌, ℕ, ◌≤◌, false, ◌&&◌, ◌||◌, nat_lt}
use Rattle.std.proofs.Common.{ap, ap₂, ◌∙◌, le_refl}
use Rattle.std.proofs.Math.Bool.{and_comm, or_comm, and-false}
use Rattle.std.proofs.lemmas.Bool.{le-ltb}
use Rattle.plex.specs.Sets.{Agreement, struck}

pub record Meaning : Type 0 where
  -- the marks are the numbers below this one
  pub marks : ℕ
  pub agrees : Agreement
  pub few : marks ≤ 128
  -- agreement goes both ways
  pub symmetric : (i j : ℕ) → agrees i j ≡ agrees j i
  -- no mark agrees with itself
  pub irreflexive : (i : ℕ) → agrees i i ≡ false
  -- nothing at or above the number of marks agrees
  pub inside : (i j : ℕ) → marks ≤ i → agrees i j ≡ false

-- two marks below n agree if the relation r holds between the lower one and the higher one
abbrev pub agree_by : ℕ → Agreement → Agreement
agree_by n r i j = (nat_lt i n && nat_lt j n) && ((nat_lt i j && r i j) || (nat_lt j i && r j i))

-- such an agreement is one that a sheet can have, whatever the relation
abbrev pub meaning_by : (n : ℕ) → n ≤ 128 → Agreement → Meaning
meaning_by n few r = record {
  marks = n;
  agrees = agree_by n r;
  few = few;
  symmetric = λ i j. ap₂ ◌&&◌ (and_comm (nat_lt i n) (nat_lt j n)) (or_comm (nat_lt i j && r i j) (nat_lt j i && r j i));
  irreflexive = λ i.
      ap (λ b. (nat_lt i n && nat_lt i n) && ((b && r i i) || (b && r i i))) (le-ltb i i (le_refl i)) ∙ and-false (nat_lt i n && nat_lt i n);
  inside = λ i j h. ap (λ b. (b && nat_lt j n) && ((nat_lt i j && r i j) || (nat_lt j i && r j i))) (le-ltb i n h);
}

-- a sheet of which the agreement of marks i and j was struck, if it was there, and nothing else
pub record Struck (before : Meaning) (i j : ℕ) (after : Meaning) : Type 0 where
  pub marks : after.marks ≡ before.marks
  pub agrees : after.agrees ≡ struck i j before.agrees
