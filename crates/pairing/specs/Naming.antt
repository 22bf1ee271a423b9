-- Which pairs of marks a run of words names. Assumes nothing.
use Rattle.std.specs.Prelude.{◌≡◌, ℕ, ◌<◌, List, Some, None, Option, nat_eq}
use Rattle.plex.specs.Sets.{Set, Agreement, among, none, only}
use Rattle.plex.specs.Meaning.{agree_by}
use Rattle.fileword.specs.Layout.{pair_word}

-- some word is that of the pair
abbrev pub names : List ℕ → Agreement
names ws a b = among ws (pair_word a b)

-- the marks that one word pairs with mark i, among n
abbrev pub paired : ℕ → ℕ → ℕ → Set
paired n w i = agree_by n (λ a b. nat_eq (pair_word a b) w) i

-- the set is empty, or has just the one mark
abbrev pub IsJust : Set → Option ℕ → Type 0
IsJust s None = s ≡ none
IsJust s (Some u) = (u < 128) × (s ≡ only u)
