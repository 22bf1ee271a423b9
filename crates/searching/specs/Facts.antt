-- What making gives, how many branches are ever open, and when an offered group is taken. Assumes nothing.
use Rattle.std.specs.Prelude.{◌≡◌, ℕ, ◌+◌, ◌<◌, ◌≤◌, List, length, Ok, ◌≢◌}
use Rattle.plex.specs.Sets.{Set, card, Kplex, among}
use Rattle.plex.specs.Meaning.{Meaning}
use Rattle.ceiling.specs.Rules.{Number}
use Rattle.searching.specs.States.{State}
use Rattle.searching.specs.Calls.{Offer, Answer, RisingMarks, OffersPlex, Does}
use Rattle.searching.specs.Making.{Made}
use Rattle.searching.specs.Sound.{InSome}
use Rattle.searching.specs.Runs.{Reached}

-- at most n + 1 branches are ever open, whatever the rule is
abbrev pub FewBranches : Type 0
FewBranches = (m : Meaning) (k : ℕ) (rule : Number) (s : State) → Made m k rule s → (paid : ℕ) (t : State) → Reached Does s paid t →
    length t.branches ≤ m.marks + 1

-- what making gives: H is held, t is the top
pub record FirstGroupStands : Type 0 where
  -- H is a k-plex of the sheet
  pub plex : (m : Meaning) (k : ℕ) (rule : Number) (s : State) → Made m k rule s → Kplex m.marks k m.agrees s.held
  -- no k-plex of the sheet has more than t marks
  pub under : (m : Meaning) (k : ℕ) (rule : Number) (s : State) → Made m k rule s → (p : Set) → Kplex m.marks k m.agrees p → card m.marks p ≤ s.top
  -- every larger k-plex is one of what co-pruning left, and lies in the branch that is open
  pub larger : (m : Meaning) (k : ℕ) (rule : Number) (s : State) → Made m k rule s → (p : Set) → Kplex m.marks k m.agrees p →
      card m.marks s.held < card m.marks p → Kplex m.marks k s.table p × InSome s.branches p

-- an offer of a strictly rising list of marks
pub record Judges (s : State) (list : List ℕ) (a : Answer (Offer list)) (t : State) : Type 0 where
  -- a larger k-plex of the sheet is taken
  pub taken : OffersPlex s list → card s.marks s.held < card s.marks (among list) → (a ≡ Ok 0) × (t.held ≡ among list)
  -- anything else is refused, and changes nothing
  pub refused : (OffersPlex s list → card s.marks s.held < card s.marks (among list) → ⊥) → (t ≡ s) × ((v : ℕ) → a ≢ Ok v)
  -- there are as many marks as the list is long
  pub size : card s.marks (among list) ≡ length list

abbrev pub OffersAreTaken : Type 0
OffersAreTaken = (s t : State) (list : List ℕ) (a : Answer (Offer list)) → RisingMarks s.marks list →
    Does s (Offer list) a t → Judges s list a t
