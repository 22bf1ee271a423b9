-- A step on a search's own table of branches.
use Rattle.std.proofs.Common.{◌≡◌, ℕ, suc, ◌+◌, ◌-◌, ◌<◌, ◌≤◌, List, ◌∷◌, length, get_or, set, sym, refl, ap, ◌∙◌, subst, ap₂, arith}
use Rattle.std.proofs.lemmas.List.{get_or-set_same, get_or-set_other, length-set}
use Rattle.plex.specs.Sets.{Set, card, only, ◌∪◌, ◌∖◌, Within}
use Rattle.plex.specs.Words.{holds}
use Rattle.ceiling.specs.Rules.{Number}
use Rattle.tables.specs.Meanings.{bit_meaning}
use Rattle.held.specs.Groups.{held_set}
use Rattle.branch.specs.declared.branches.Branch.{Branch}
use Rattle.searching.specs.States.{State, branch, moved, capped}
use Rattle.searching.specs.Trimming.{Trimmed}
use Rattle.searching.specs.Steps.{Stepped}
use Rattle.searching.proofs.Branches.{stacked_few}
use Rattle.searching.proofs.Forming.{formed_step}
use Rattle.search.specs.declared.searches.Search.{Search}
use Rattle.search.specs.declared.searches.stepping.Outcome.{Outcome}
use Rattle.search.specs.declared.searches.stepping.Outcome.TheVariants.{Closes, Takes, Splits}
use Rattle.search.specs.Stacks.{no_branch, chosen_at, candidates_at}
use Rattle.search.specs.View.{opened, view}
use Rattle.search.specs.Outcomes.{FallsOut}
use Rattle.search.proofs.View.{formed}
use Rattle.search.proofs.Telling.{few_open, held_within, opened_length}
use Rattle.search.proofs.Stepping.{opened_set, within_both, closed, took, parted, split_small, written_so}

-- the newest branch of a search was trimmed for the size of its group
pub record Trims {R : Type 0} (me : Search R) (h : ℕ) (trim : Branch) : Type 0 where
  pub some : 0 < me.count
  pub long : length me.branches ≡ 129
  pub size : h ≡ card 128 (held_set me.held)
  pub same : trim.chosen ≡ (get_or me.branches (me.count - 1) no_branch).chosen
  pub trimmed : Trimmed 128 me.k (bit_meaning me.table).agrees h (chosen_at me.branches (me.count - 1)) (candidates_at me.branches (me.count - 1)) (holds trim.candidates)

module _ {R : Type 0} (number : R → Number) (me : Search R) (h : ℕ) (trim : Branch) (t : Trims me h trim) where
  abbrev at : ℕ
  at = me.count - 1

  abbrev s : State
  s = view number me

  abbrev bs : List Branch
  bs = me.branches

  abbrev S : Set
  S = chosen_at bs at

  abbrev C : Set
  C = holds trim.candidates

  one_more : me.count ≡ suc at
  one_more = omega (arith, t.some)

  trimmed' : Trimmed 128 s.k s.table (card 128 s.held) S (candidates_at bs at) C
  trimmed' = subst (λ x. Trimmed 128 s.k s.table x S (candidates_at bs at) C) t.size t.trimmed

  -- the branch that is read is the one that was trimmed
  pub read : get_or (set bs at trim) at no_branch ≡ trim
  read = get_or-set_same bs at trim no_branch (omega (arith, t.long, few_open me, t.some))

  falls : (o : Outcome) → FallsOut s.rule s.k s.table h (holds (get_or (set bs at trim) at no_branch).chosen) (holds (get_or (set bs at trim) at no_branch).candidates) o →
      FallsOut s.rule s.k s.table (card 128 s.held) S C o
  falls o x =
      let a = subst (λ b. FallsOut s.rule s.k s.table h (holds b.chosen) (holds b.candidates) o) read x in
      let b = subst (λ ws. FallsOut s.rule s.k s.table h (holds ws) C o) t.same a in
      subst (λ y. FallsOut s.rule s.k s.table y S C o) t.size b

  abbrev ReadFalls : Outcome → Type 0
  ReadFalls o = FallsOut s.rule s.k s.table h (holds (get_or (set bs at trim) at no_branch).chosen) (holds (get_or (set bs at trim) at no_branch).candidates) o

  abbrev is : s.branches ≡ opened bs (suc at)
  is = ap (opened bs) one_more

  pub step_closes : ReadFalls Closes → (n : ℕ) → n ≡ capped (s.taken + 1) → Stepped s (moved s s.held (opened (set bs at trim) at) n)
  step_closes x n e =
      written_so s s.held s.held (opened bs at) (opened (set bs at trim) at) (capped (s.taken + 1)) n refl (sym (opened_set bs at trim at (omega arith))) (sym e)
      (closed s (formed number me) bs at is (held_within me) trim trimmed' (falls Closes x))

  pub group_within : Within s.marks (S ∪ C)
  group_within = within_both s (formed number me) bs at is (held_within me) trim trimmed'

  pub step_takes : ReadFalls Takes → (group : List ℕ) → holds group ≡ S ∪ C → (n : ℕ) → n ≡ capped (s.taken + 1) →
      Stepped s (moved s (holds group) (opened (set bs at trim) at) n)
  step_takes x group g n e =
      written_so s (S ∪ C) (holds group) (opened bs at) (opened (set bs at trim) at) (capped (s.taken + 1)) n (sym g) (sym (opened_set bs at trim at (omega arith))) (sym e)
      (took s (formed number me) bs at is (held_within me) trim trimmed' (falls Takes x))

  pub mark_small : (u : ℕ) → ReadFalls (Splits u) → u < 128
  mark_small u x = split_small s (formed number me) bs at is (held_within me) trim trimmed' u (falls (Splits u) x)

  parts : (u : ℕ) → ReadFalls (Splits u) → Stepped s (moved s s.held (branch (S ∪ only u) (C ∖ only u) ∷ branch S (C ∖ only u) ∷ opened bs at) (capped (s.taken + 1)))
  parts u x = parted s (formed number me) bs at is (held_within me) trim trimmed' u (falls (Splits u) x)

  -- there is room for one branch more
  pub room : (u : ℕ) → ReadFalls (Splits u) → at + 2 ≤ 129
  room u x =
      let after = moved s s.held (branch (S ∪ only u) (C ∖ only u) ∷ branch S (C ∖ only u) ∷ opened bs at) (capped (s.taken + 1)) in
      let f = formed_step s after (formed number me) (parts u x) in
      omega (arith, stacked_few s.marks after.branches f.stacked, opened_length bs at, me.sheet.few)

  -- the two branches in the table
  abbrev split_table : Branch → Branch → List Branch
  split_table b d = set (set (set bs at trim) at b) (at + 1) d

  top_two : (u : ℕ) → ReadFalls (Splits u) → (b d : Branch) → opened (split_table b d) (at + 2) ≡
      branch (holds d.chosen) (holds d.candidates) ∷ branch (holds b.chosen) (holds b.candidates) ∷ opened bs at
  top_two u x b d =
      let l : length (set (set bs at trim) at b) ≡ 129 = length-set (set bs at trim) at b ∙ length-set bs at trim ∙ t.long in
      let newest : get_or (split_table b d) (at + 1) no_branch ≡ d = get_or-set_same (set (set bs at trim) at b) (at + 1) d no_branch (omega (arith, l, room u x)) in
      let older : get_or (split_table b d) at no_branch ≡ b =
      get_or-set_other (set (set bs at trim) at b) (at + 1) at d no_branch (λ e. omega arith)
      ∙ get_or-set_same (set bs at trim) at b no_branch (omega (arith, length-set bs at trim, t.long, room u x)) in
      let rest : opened (split_table b d) at ≡ opened bs at =
      opened_set (set (set bs at trim) at b) (at + 1) d at (omega arith) ∙ opened_set (set bs at trim) at b at (omega arith) ∙ opened_set bs at trim at (omega arith) in
      let shape : at + 2 ≡ suc (suc at) = omega arith in
      let up : at + 1 ≡ suc at = omega arith in
      ap (opened (split_table b d)) shape
      ∙ ap₂ (λ y ys. branch (holds y.chosen) (holds y.candidates) ∷ ys) (ap (λ j. get_or (split_table b d) j no_branch) (sym up) ∙ newest)
      (ap₂ (λ y ys. branch (holds y.chosen) (holds y.candidates) ∷ ys) older rest)

  pub step_splits : (u : ℕ) → ReadFalls (Splits u) → (b d : Branch) → holds b.chosen ≡ S → holds b.candidates ≡ C ∖ only u → holds d.chosen ≡ S ∪ only u →
      holds d.candidates ≡ C ∖ only u → (n : ℕ) → n ≡ capped (s.taken + 1) → Stepped s (moved s s.held (opened (split_table b d) (at + 2)) n)
  step_splits u x b d p q v w n e =
      written_so s s.held s.held (branch (S ∪ only u) (C ∖ only u) ∷ branch S (C ∖ only u) ∷ opened bs at) (opened (split_table b d) (at + 2)) (capped (s.taken + 1)) n refl
      (sym (top_two u x b d ∙ ap₂ (λ y z. y ∷ z ∷ opened bs at) (ap₂ branch v w) (ap₂ branch p q))) (sym e) (parts u x)
