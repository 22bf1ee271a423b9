-- What a good file is, by what it is written from. Assumes nothing.
use Rattle.std.specs.Prelude.{◌≡◌, ℕ, ◌^◌, ◌<◌, ◌≤◌, Bool, false, ◌&&◌, ◌||◌, ◌⊎◌, List, [], ◌∷◌, ◌++◌, map, length, ℤ, pos, negsuc, ◌≤ℤ◌, ◌==◌}
use Rattle.std.specs.List.{flat_map, AllByRecursion}
use Rattle.plex.specs.Distance.{Point, Sighting}
use Rattle.fileword.specs.Layout.{head_word, pair_word, tolerance_word, end_word, point_words}
use Rattle.fileword.specs.declared.files.Form.{Form}
use Rattle.fileword.specs.declared.files.Form.TheVariants.{Pairs, Measured}
use Rattle.fileword.specs.declared.files.Summary.{Summary}

-- two marks that agree, the lower first
pub record Pair : Type 0 where
  pub a : ℕ
  pub b : ℕ

abbrev pub NamesMarks : ℕ → Pair → Type 0
NamesMarks n p = (p.a < p.b) × (p.b < n)

-- by the first mark, and then by the second
abbrev pub ComesBefore : Pair → Pair → Type 0
ComesBefore p q = (p.a < q.a) ⊎ ((p.a ≡ q.a) × (p.b < q.b))

abbrev pub RisingPairs : List Pair → Type 0
RisingPairs [] = Unit {0}
RisingPairs (p ∷ []) = Unit {0}
RisingPairs (p ∷ q ∷ ps) = ComesBefore p q × RisingPairs (q ∷ ps)

-- a head, the pairs, and an end that says how many there are
abbrev pub pair_file : ℕ → ℕ → List Pair → List ℕ
pair_file n k ps = head_word n k ∷ (map (λ p. pair_word p.a p.b) ps ++ end_word (length ps) ∷ [])

abbrev pub Coordinate : ℤ → Type 0
Coordinate c = (negsuc 8191 ≤ℤ c) × (c ≤ℤ pos 8191)

abbrev pub OnDome : Point → Type 0
OnDome p = Coordinate p.x × Coordinate p.y × Coordinate p.z

-- the four words of a mark: its planned point, then where it was seen
abbrev pub sighting_words : Sighting → List ℕ
sighting_words s = point_words 3 s.planned ++ point_words 5 s.seen

-- a head, the tolerance, the marks in turn, and an end that says how many there are
abbrev pub measured_file : ℕ → ℕ → ℕ → List Sighting → List ℕ
measured_file n k tolerance ss =
    head_word n k ∷ tolerance_word tolerance ∷ (flat_map sighting_words ss ++ end_word n ∷ [])

-- a pair file of n marks for k, written from the pairs ps
pub record PairFile (n k : ℕ) (ps : List Pair) (ws : List ℕ) : Type 0 where
  pub marks : AllByRecursion (NamesMarks n) ps
  pub rising : RisingPairs ps
  pub written : ws ≡ pair_file n k ps

-- a measured file of n marks for k, written from a tolerance and the marks' sightings
pub record MeasuredFile (n k tolerance : ℕ) (ss : List Sighting) (ws : List ℕ) : Type 0 where
  pub range : tolerance < 2 ^ 28
  pub marks : length ss ≡ n
  pub planned : AllByRecursion (λ s. OnDome s.planned) ss
  pub seen : AllByRecursion (λ s. OnDome s.seen) ss
  pub written : ws ≡ measured_file n k tolerance ss

abbrev pub Written : Form → ℕ → ℕ → List ℕ → Type 0
Written Pairs n k ws = (ps : List Pair) × PairFile n k ps ws
Written Measured n k ws = (tolerance : ℕ) × (ss : List Sighting) × MeasuredFile n k tolerance ss ws

-- the words ws are a good file, and it is as f says
pub record Good (ws : List ℕ) (f : Summary) : Type 0 where
  pub few : f.marks ≤ 128
  pub low : 1 ≤ f.k
  pub high : f.k ≤ 16
  pub written : Written f.form f.marks f.k ws

-- the marks i and j are a pair of the list, in either order
abbrev pub named_in : List Pair → ℕ → ℕ → Bool
named_in [] i j = false
named_in (p ∷ ps) i j = ((p.a == i && p.b == j) || (p.a == j && p.b == i)) || named_in ps i j
