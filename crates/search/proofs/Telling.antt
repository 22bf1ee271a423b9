-- What a search says of itself: the open branches, one after the other, counted over 128.
use Rattle.std.proofs.Common.{◌≡◌, ℕ, zero, suc, ◌+◌, ◌<◌, ◌≤◌, max, true, false, List, [], ◌∷◌, ◌++◌, length, get_or, take, fold, drop, Some, None, Option, sym, refl, ap, ◌∙◌, ap₂, inl, inr, append-nil, add-one, arith}
use Rattle.std.proofs.lemmas.Bool.{cases_eq}
use Rattle.std.proofs.lemmas.List.{take_more}
use Rattle.std.proofs.lemmas.List.Sums.{fold-append}
use Rattle.plex.specs.Sets.{Set, card, Within, rising, if_in}
use Rattle.plex.specs.Words.{holds}
use Rattle.plex.proofs.Count.{card_beyond}
use Rattle.tables.specs.Bits.{bit_agrees}
use Rattle.branch.specs.declared.branches.Branch.{Branch}
use Rattle.searching.specs.States.{branch, widest, steps_for, steps_over, none_open, capped}
use Rattle.searching.specs.Sound.{SoundBranch}
use Rattle.searching.proofs.Branches.{stacked_few, capped_sum}
use Rattle.std.specs.Option.{ok_or}
use Rattle.held.specs.Groups.{held_set, CopiesInto}
use Rattle.ceiling.specs.Rules.{Number}
use Rattle.searching.specs.declared.refusal.SearchRefusal.TheVariants.{TooFewPlaces}
use Rattle.searching.specs.Calls.{CopiedOut}
use Rattle.search.specs.declared.searches.Search.{Search}
use Rattle.search.specs.Stacks.{no_branch, chosen_at, candidates_at}
use Rattle.search.specs.View.{opened, view}
use Rattle.search.proofs.Stacks.{sound_here, stacked_all, inside_within}

pub opened_length : (bs : List Branch) (m : ℕ) → length (opened bs m) ≡ m
opened_length bs zero = refl
opened_length bs (suc m) = ap suc (opened_length bs m)

module _ {R : Type 0} (s : Search R) where
  -- no more branches are open than the table has
  pub few_open : s.count ≤ 129
  few_open =
      omega (
        arith,
        s.sheet.few,
        opened_length s.branches s.count,
        stacked_few s.sheet.marks (opened s.branches s.count)
            (stacked_all s.branches s.count s.sheet.marks s.k s.table.rows s.held.set.words s.ordered s.count refl),
      )

  pub held_within : Within s.sheet.marks (held_set s.held)
  held_within = inside_within s.sheet.marks s.held.set.words s.inside

  -- each set counts as well over 128
  pub held_count : card 128 (held_set s.held) ≡ card s.sheet.marks (held_set s.held)
  held_count = card_beyond s.sheet.marks 128 (held_set s.held) held_within s.sheet.few

  module _ (j : ℕ) (stands : j < s.count) where
    here : SoundBranch s.sheet.marks s.k (bit_agrees s.table.rows) (card s.sheet.marks (holds s.held.set.words)) (branch (chosen_at s.branches j) (candidates_at s.branches j))
    here = sound_here s.branches s.count s.sheet.marks s.k s.table.rows s.held.set.words s.chosens s.candidates s.apart s.plex j stands

    pub chosen_count : card 128 (chosen_at s.branches j) ≡ card s.sheet.marks (chosen_at s.branches j)
    chosen_count = card_beyond s.sheet.marks 128 (chosen_at s.branches j) here.chosen s.sheet.few

    pub candidates_count : card 128 (candidates_at s.branches j) ≡ card s.sheet.marks (candidates_at s.branches j)
    candidates_count = card_beyond s.sheet.marks 128 (candidates_at s.branches j) here.candidates s.sheet.few

-- how many marks a branch has, chosen or candidates, and the steps that it can take, counted over 128
abbrev pub width : Branch → ℕ
width b = card 128 (holds b.chosen) + card 128 (holds b.candidates)

abbrev pub own_steps : Branch → ℕ
own_steps b = capped (steps_for (card 128 (holds b.candidates)))

module _ {R : Type 0} (s : Search R) (long : length s.branches ≡ 129) where
  -- one branch more
  one_further : {A : Type 0} (h : A → Branch → A) (a : A) (m : ℕ) → m < s.count →
      fold h a (take (suc m) s.branches) ≡ h (fold h a (take m s.branches)) (get_or s.branches m no_branch)
  one_further h a m l =
      ap (λ k. fold h a (take k s.branches)) (sym (add-one m))
      ∙ ap (fold h a) (take_more s.branches m no_branch (omega (arith, few_open s)))
      ∙ fold-append h a (take m s.branches) (get_or s.branches m no_branch ∷ [])

  pub widest_of : (size m : ℕ) → m ≤ s.count →
      fold (λ most b. max most (width b)) size (take m s.branches) ≡ max size (widest s.sheet.marks (opened s.branches m))
  widest_of size zero l = omega arith
  widest_of size (suc m) l =
      omega (
        arith,
        one_further (λ most b. max most (width b)) size m (omega arith),
        widest_of size m (omega arith),
        chosen_count s m (omega arith),
        candidates_count s m (omega arith),
      )

  pub steps_of : (m : ℕ) → m ≤ s.count →
      fold (λ left b. capped (left + own_steps b)) 0 (take m s.branches) ≡ capped (steps_over s.sheet.marks (opened s.branches m))
  steps_of zero l = refl
  steps_of (suc m) l =
      let n = s.sheet.marks in
      let own : own_steps (get_or s.branches m no_branch) ≡ capped (steps_for (card n (candidates_at s.branches m))) =
      ap (λ x. capped (steps_for x)) (candidates_count s m (omega arith)) in
      omega (
        arith,
        one_further (λ left b. capped (left + own_steps b)) 0 m (omega arith),
        steps_of m (omega arith),
        own,
        capped_sum (steps_for (card n (candidates_at s.branches m))) (steps_over n (opened s.branches m)),
      )

-- a set of marks below n has the same rising list over more
pub rising_beyond : (n m : ℕ) (s : Set) → Within n s → n ≤ m → rising m s ≡ rising n s
unfolding rising
rising_beyond n zero s w l = let e : 0 ≡ n = omega arith in ap (λ x. rising x s) e
rising_beyond n (suc m) s w l =
    elim (cases_eq n (suc m)) [
      | inl e ↦ ap (λ x. rising x s) (sym e)
      | inr e ↦
          (let out : s m ≡ false = (let y = w m in grind arith) in
          ap₂ ◌++◌ (rising_beyond n m s w (omega arith)) (ap (λ b. if_in b m) out) ∙ append-nil (rising n s))
    ]

-- a copy of the group held into places is what a copy-out is to leave
pub copied_out : {R : Type 0} (number : R → Number) (s : Search R) (places places' : List ℕ) (o : Option ℕ) → none_open (opened s.branches s.count) ≡ true → CopiesInto (held_set s.held) places places' o →
    CopiedOut (view number s) places (ok_or o TooFewPlaces) places'
copied_out number s places places' None l c = ((l, omega (arith, c.0, held_count s)), c.1)
copied_out number s places places' (Some count) l c = record {
  done = l;
  room = omega (arith, c.0, c.1, held_count s);
  count_is = c.0 ∙ held_count s;
  written =
      c.2 ∙ ap₂ (λ xs m. xs ++ drop m places) (rising_beyond s.sheet.marks 128 (held_set s.held) (held_within s) s.sheet.few) (c.0 ∙ held_count s);
}
