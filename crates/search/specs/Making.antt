-- What making a search answers, and what it leaves. Assumes nothing.
use Rattle.std.specs.Prelude.{◌≡◌, ℕ, ◌+◌, ◌-◌, ◌^◌, ◌<◌, ◌≤◌, List, Ok, Err, Result}
use Rattle.plex.specs.Meaning.{Meaning}
use Rattle.coprune.specs.Answers.{pair_places, MayHoldAnything}
use Rattle.ceiling.specs.Rules.{Number}
use Rattle.searching.specs.States.{ceiling, settled, held_size}
use Rattle.searching.specs.Calls.{Does}
use Rattle.searching.specs.Making.{Made}
use Rattle.searching.specs.Law.{Law}
use Rattle.search.specs.declared.refusal.MakeRefusal.{MakeRefusal}
use Rattle.search.specs.declared.refusal.MakeRefusal.TheVariants.{KOutOfRange, TooFewMarkPlaces, TooFewPairPlaces}
use Rattle.search.specs.declared.searches.Search.{Search}
use Rattle.search.specs.View.{view}

-- the number of each refusal
abbrev pub number : MakeRefusal → ℕ
number KOutOfRange = 41
number TooFewMarkPlaces = 42
number TooFewPairPlaces = 43

-- under exactly which condition making is refused, and why
abbrev pub Refuses : Meaning → ℕ → ℕ → ℕ → MakeRefusal → Type 0
Refuses m k mark_room pair_room KOutOfRange = 1 ≤ k → k ≤ 16 → ⊥
Refuses m k mark_room pair_room TooFewMarkPlaces = (1 ≤ k) × (k ≤ 16) × (mark_room < m.marks)
Refuses m k mark_room pair_room TooFewPairPlaces = (1 ≤ k) × (k ≤ 16) × (m.marks ≤ mark_room) × (pair_room < pair_places m)

-- the law, of every list of calls on the search s itself: Does says what the calls do, on what searches mean
abbrev pub KeepsTheLaw : {R : Type 0} → (R → Number) → Meaning → ℕ → Search R → Type 0
KeepsTheLaw number m k s =
    Law (λ x c a y. Does (view number x) c a (view number y)) (λ x. (view number x).held) (λ x. ceiling (view number x)) (λ x. settled (view number x))
    m.marks k m.agrees (2 ^ (m.marks + 1) - 1) s

-- a search on the sheet m with k and a rule, just made
pub record Makes {R : Type 0} (number : R → Number) (m : Meaning) (k : ℕ) (rule : R) (mark_room pair_room : ℕ) (s : Search R) : Type 0 where
  pub low : 1 ≤ k
  pub high : k ≤ 16
  pub marks : m.marks ≤ mark_room
  pub pairs : pair_places m ≤ pair_room
  pub rule_kept : s.rule ≡ rule
  pub made : Made m k (number rule) (view number s)
  pub law : KeepsTheLaw number m k s

abbrev pub Making : {R : Type 0} → (R → Number) → Meaning → ℕ → R → ℕ → ℕ → Result (Search R) MakeRefusal → Type 0
Making number m k rule mark_room pair_room (Ok s) = Makes number m k rule mark_room pair_room s
Making number m k rule mark_room pair_room (Err e) = Refuses m k mark_room pair_room e

-- the work spaces are as before on a refusal, and where nothing was co-pruned; otherwise they may hold anything
abbrev pub Spaces : {R T U : Type 0} → (R → Number) → Result (Search R) MakeRefusal → List T → List T → List U → List U → Type 0
Spaces number (Ok s) marks marks' pairs pairs' =
    ((view number s).top ≤ held_size (view number s) → (marks' ≡ marks) × (pairs' ≡ pairs))
    × (held_size (view number s) < (view number s).top → MayHoldAnything marks' × MayHoldAnything pairs')
Spaces number (Err e) marks marks' pairs pairs' = (marks' ≡ marks) × (pairs' ≡ pairs)
