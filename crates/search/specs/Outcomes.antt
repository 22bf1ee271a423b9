-- What becomes of a branch, counted over 128 marks. Assumes nothing.
use Rattle.std.specs.Prelude.{◌≡◌, ℕ, ◌+◌, ◌≤◌, true, false, ◌⊎◌, Some, None}
use Rattle.plex.specs.Sets.{Set, Agreement, card, ◌∪◌, is_kplex}
use Rattle.ceiling.specs.Rules.{Number, reply}
use Rattle.searching.specs.Computed.{pick}
use Rattle.search.specs.declared.searches.stepping.Outcome.{Outcome}
use Rattle.search.specs.declared.searches.stepping.Outcome.TheVariants.{Closes, Takes, Splits}

-- no k-plex of the branch can have more than h marks, by its marks or by the rule
abbrev pub NoLarger : Number → ℕ → Agreement → ℕ → Set → Set → Type 0
NoLarger number k agrees h s c = (card 128 s + card 128 c ≤ h) ⊎ (reply number k agrees s c ≤ h)

-- a branch that could not be split would close too; there is none in a search
abbrev pub FallsOut : Number → ℕ → Agreement → ℕ → Set → Set → Outcome → Type 0
FallsOut number k agrees h s c Closes =
    NoLarger number k agrees h s c ⊎ ((NoLarger number k agrees h s c → ⊥) × (is_kplex 128 k agrees (s ∪ c) ≡ false) × (pick 128 k agrees s c ≡ None))
FallsOut number k agrees h s c Takes = (NoLarger number k agrees h s c → ⊥) × (is_kplex 128 k agrees (s ∪ c) ≡ true)
FallsOut number k agrees h s c (Splits u) =
    (NoLarger number k agrees h s c → ⊥) × (is_kplex 128 k agrees (s ∪ c) ≡ false) × (pick 128 k agrees s c ≡ Some u)
