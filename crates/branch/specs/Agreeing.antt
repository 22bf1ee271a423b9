-- Marks that agree with enough marks. Assumes nothing.
use Rattle.std.specs.Prelude.{◌≡◌, ℕ, ◌<◌, true}
use Rattle.plex.specs.Sets.{Set, Agreement, card, ◌∩◌, ◌∪◌, ◌⊆◌}

-- each mark of c agrees with more than few marks of s and c
abbrev pub Agreeing : ℕ → Agreement → Set → Set → Type 0
Agreeing few agrees s c = (v : ℕ) → c v ≡ true → few < card 128 ((s ∪ c) ∩ agrees v)

-- d is the largest part of c that does so
pub record LargestAgreeing (few : ℕ) (agrees : Agreement) (s c d : Set) : Type 0 where
  pub agreeing : Agreeing few agrees s d
  pub part : d ⊆ c
  pub most : (e : Set) → Agreeing few agrees s e → e ⊆ c → e ⊆ d

-- what one pass over c leaves: it loses no part that does so, and where it drops nothing all is well
pub record Swept (few : ℕ) (agrees : Agreement) (s c d : Set) : Type 0 where
  pub part : d ⊆ c
  pub most : (e : Set) → Agreeing few agrees s e → e ⊆ c → e ⊆ d
  pub still : card 128 d ≡ card 128 c → Agreeing few agrees s d
