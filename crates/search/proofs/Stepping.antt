-- What a step leaves in the table is what the definition of a step says.
use Rattle.std.proofs.Common.{◌≡◌, ℕ, zero, suc, ◌+◌, ◌<◌, ◌≤◌, true, false, List, ◌∷◌, set, Some, None, Option, refl, subst, ap₂, inl, inr, arith}
use Rattle.std.proofs.lemmas.List.{get_or-set_other}
use Rattle.std.proofs.lemmas.Bool.{both_ways, or_cases}
use Rattle.plex.specs.Sets.{Set, card, only, ◌∪◌, ◌∖◌, Within, is_kplex}
use Rattle.plex.specs.Words.{holds}
use Rattle.plex.proofs.Count.{heredity, card_none}
use Rattle.plex.proofs.Decide.{kplex_decides}
use Rattle.branch.specs.declared.branches.Branch.{Branch}
use Rattle.searching.specs.States.{State, branch, moved, held_size, capped}
use Rattle.searching.specs.Trimming.{Trimmed}
use Rattle.searching.specs.Steps.{Newest, Hopeless, WholePlex, SplitMark, Stepped, closes, takes, splits}
use Rattle.searching.specs.Computed.{pick}
use Rattle.searching.specs.Sound.{SoundBranch, SoundBranches, Formed}
use Rattle.searching.proofs.Branches.{plex_beyond}
use Rattle.searching.proofs.Choosing.{PickedAt, pick_is}
use Rattle.searching.proofs.Forming.{split_member, formed_step}
use Rattle.searching.specs.States as states
use Rattle.tables.specs.Bits.{bit_agrees}
use Rattle.search.specs.Stacks.{no_branch, chosen_at, candidates_at}
use Rattle.search.proofs.Stacks.{Passes, passes_from}
use Rattle.search.specs.View.{opened}
use Rattle.search.specs.Outcomes.{NoLarger, FallsOut}
use Rattle.search.specs.declared.searches.stepping.Outcome.TheVariants.{Closes, Takes, Splits}
use Rattle.search.proofs.Narrowing.{count_same, plex_within, trimmed_within, split_within}

-- a place at or above m is not among the first m
pub opened_set : (bs : List Branch) (j : ℕ) (b : Branch) (m : ℕ) → m ≤ j → opened (set bs j b) m ≡ opened bs m
opened_set bs j b zero l = refl
opened_set bs j b (suc m) l =
    ap₂ (λ x xs. branch (holds x.chosen) (holds x.candidates) ∷ xs) (get_or-set_other bs j m b no_branch (λ e. omega arith)) (opened_set bs j b m (omega arith))

module _ (s : State) (f : Formed s) (bs : List Branch) (at : ℕ) (is : s.branches ≡ opened bs (suc at)) (inside : Within s.marks s.held)
    (trim : Branch) (trimmed : Trimmed 128 s.k s.table (card 128 s.held) (chosen_at bs at) (candidates_at bs at) (holds trim.candidates)) where
  abbrev n : ℕ
  n = s.marks

  abbrev S : Set
  S = chosen_at bs at

  abbrev C : Set
  C = holds trim.candidates

  own : SoundBranch n s.k s.table (held_size s) (branch S (candidates_at bs at))
  own = (subst (SoundBranches n s.k s.table (held_size s)) is f.branches).0

  pub within_S : Within n S
  within_S = own.chosen

  pub within_C : Within n C
  within_C i t = own.candidates i (trimmed.part i t)

  pub within_both : Within n (S ∪ C)
  within_both i t = elim (or_cases (S i) (C i) t) [ inl e ↦ within_S i e | inr e ↦ within_C i e ]

  held_same : card 128 s.held ≡ held_size s
  held_same = count_same n f.few s.held inside

  newest : Newest s (branch S (candidates_at bs at)) (opened bs at) C
  newest = record {
    newest = is;
    trimmed = subst (λ h. Trimmed n s.k s.table h S (candidates_at bs at) C) held_same
        (trimmed_within n f.few s.k s.table (card 128 s.held) S (candidates_at bs at) within_S own.candidates C trimmed);
  }

  narrow : NoLarger s.rule s.k s.table (card 128 s.held) S C → Hopeless s S C
  narrow (inl l) = inl (omega (arith, l, held_same, count_same n f.few S within_S, count_same n f.few C within_C))
  narrow (inr l) = inr (omega (arith, l, held_same))

  widen : Hopeless s S C → NoLarger s.rule s.k s.table (card 128 s.held) S C
  widen (inl l) = inl (omega (arith, l, held_same, count_same n f.few S within_S, count_same n f.few C within_C))
  widen (inr l) = inr (omega (arith, l, held_same))

  below_128 : Within 128 (S ∪ C)
  below_128 i t = omega (arith, within_both i t, f.few)

  whole : is_kplex 128 s.k s.table (S ∪ C) ≡ true → WholePlex s S C
  whole e = plex_within n f.few s.k s.table (S ∪ C) within_both ((kplex_decides 128 s.k s.table (S ∪ C) below_128).0 e)

  not_whole : is_kplex 128 s.k s.table (S ∪ C) ≡ false → WholePlex s S C → ⊥
  not_whole e q = both_ways (is_kplex 128 s.k s.table (S ∪ C)) e ((kplex_decides 128 s.k s.table (S ∪ C) below_128).1 (plex_beyond n s.k s.table (S ∪ C) f.few q))

  within_128 : Within 128 C
  within_128 i t = omega (arith, within_C i t, f.few)

  -- no candidate is left, so S is no k-plex and has more marks than are held, which no branch is and has
  unsplit : (NoLarger s.rule s.k s.table (card 128 s.held) S C → ⊥) → (WholePlex s S C → ⊥) → ((i : ℕ) → C i ≡ false) → ⊥
  unsplit more less none =
      elim own.plex [
        | inl q ↦ less (heredity n s.k s.table (S ∪ C) S (λ i t. elim (or_cases (S i) (C i) t) [ inl e ↦ e | inr e ↦ absurd (both_ways (C i) (none i) e) ]) q)
        | inr l ↦ more (widen (inl (omega (arith, l, card_none n C (λ i _. none i)))))
      ]

  picked : (o : Option ℕ) → pick 128 s.k s.table S C ≡ o → PickedAt 128 s.k s.table S C o
  picked o e = subst (PickedAt 128 s.k s.table S C) e (pick_is 128 s.k s.table S C within_128)

  pub closed : FallsOut s.rule s.k s.table (card 128 s.held) S C Closes → Stepped s (moved s s.held (opened bs at) (capped (s.taken + 1)))
  closed (inl l) = closes (branch S (candidates_at bs at)) (opened bs at) C newest (narrow l)
  closed (inr x) = absurd (unsplit x.0 (not_whole x.1) (picked None x.2))

  pub took : FallsOut s.rule s.k s.table (card 128 s.held) S C Takes → Stepped s (moved s (S ∪ C) (opened bs at) (capped (s.taken + 1)))
  took x = takes (branch S (candidates_at bs at)) (opened bs at) C newest (λ h. x.0 (widen h)) (whole x.1)

  split_by : (u : ℕ) → pick 128 s.k s.table S C ≡ Some u → SplitMark n s.k s.table S C u
  split_by u e = split_within n f.few s.k s.table S C within_S within_C u (picked (Some u) e)

  pub parted : (u : ℕ) → FallsOut s.rule s.k s.table (card 128 s.held) S C (Splits u) →
      Stepped s (moved s s.held (branch (S ∪ only u) (C ∖ only u) ∷ branch S (C ∖ only u) ∷ opened bs at) (capped (s.taken + 1)))
  parted u x = splits (branch S (candidates_at bs at)) (opened bs at) C u newest (λ h. x.0 (widen h)) (not_whole x.1) (split_by u x.2)

  -- the mark to split by is a mark
  pub split_small : (u : ℕ) → FallsOut s.rule s.k s.table (card 128 s.held) S C (Splits u) → u < 128
  split_small u x = within_128 u (split_member n s.k s.table S C u within_C (split_by u x.2))

-- the same step, with its parts written otherwise
pub written_so : (s : State) (h h' : Set) (bs bs' : List states.Branch) (t t' : ℕ) → h ≡ h' → bs ≡ bs' → t ≡ t' → Stepped s (moved s h bs t) → Stepped s (moved s h' bs' t')
written_so s h h' bs bs' t t' p q r x =
    subst (λ y. Stepped s (moved s h' bs' y)) r (subst (λ y. Stepped s (moved s h' y t)) q (subst (λ y. Stepped s (moved s y bs t)) p x))

-- what a step leaves passes them
pub passes : (s : State) (f : Formed s) (bs : List Branch) (count : ℕ) (rows : List (List ℕ)) (group : List ℕ) (t : ℕ) → s.table ≡ bit_agrees rows →
    Stepped s (moved s (holds group) (opened bs count) t) → Within s.marks (holds group) → Passes bs count s.marks s.k rows group
passes s f bs count rows group t e x w =
    let g = formed_step s (moved s (holds group) (opened bs count) t) f x in
    passes_from bs count s.marks s.k rows group (subst (λ a. SoundBranches s.marks s.k a (card s.marks (holds group)) (opened bs count)) e g.branches) g.stacked w
