-- The theorems that the contracts name, put together.
use Rattle.std.proofs.Common.{◌≡◌, ℕ, ◌+◌, ◌-◌, ◌^◌, ◌≤◌, Bool, true, false, List, Ok, Err, Result, sym, ap, subst, arith}
use Rattle.std.proofs.lemmas.Bool.{ltb-true, true≢false}
use Rattle.plex.specs.Sets.{Set, card, below, Kplex, among}
use Rattle.plex.specs.Meaning.{Meaning}
use Rattle.plex.proofs.Count.{card_le}
use Rattle.ceiling.specs.Rules.{Number}
use Rattle.searching.specs.declared.refusal.SearchRefusal.{SearchRefusal}
use Rattle.searching.specs.declared.refusal.SearchRefusal.TheVariants.{
  BudgetOutOfRange,
  ListTooLong,
  NotRisingMarks,
  NotPlex,
  NotLarger,
  NotSettled,
  TooFewPlaces,
}
use Rattle.searching.specs.States.{State, steps_left}
use Rattle.searching.specs.Calls.{Offer, Answer, RisingMarks, Does}
use Rattle.searching.specs.Making.{Made}
use Rattle.searching.specs.Law.{LawOverRuns}
use Rattle.searching.specs.Facts.{FewBranches, FirstGroupStands, Judges, OffersAreTaken}
use Rattle.searching.specs.Exactness.{ComputedIsTheSame}
use Rattle.searching.proofs.Branches.{stacked_few}
use Rattle.searching.proofs.Forming.{step_falls}
use Rattle.searching.proofs.Runs.{law_from_sound}
use Rattle.searching.proofs.Making.{made_sound, made_left}
use Rattle.searching.proofs.Law.{the_law}
use Rattle.searching.proofs.First.{peels_unique, peel_is}
use Rattle.searching.proofs.Trimming.{trim_is, trim_unique}
use Rattle.searching.proofs.Choosing.{PickedAt, pick_is, split_picked}
use Rattle.searching.proofs.Stepping.{step_only}
use Rattle.searching.proofs.Offering.{rising_size}
use Rattle.searching.proofs.Exactness.{computed_does, formed_reached}
use Rattle.searching.proofs.Made.{make_is}

pub law_over_runs_lem : LawOverRuns
law_over_runs_lem = record {
  made = the_law;
  sound = law_from_sound;
  falls = step_falls;
  starts = λ m k rule s w. subst (λ n. steps_left s ≤ 2 ^ (n + 1) - 1) w.marks (made_left m k rule s w);
}

pub few_branches : FewBranches
few_branches m k rule s w paid t r =
    let p = formed_reached s t paid (made_sound m k rule s w).formed r in
    omega (arith, stacked_few t.marks t.branches p.0.stacked, p.1, w.marks)

-- k-plexes of the sheet are those of the search
module _ (m : Meaning) (k : ℕ) (rule : Number) (s : State) (w : Made m k rule s) where
  to_sheet : (p : Set) → Kplex s.marks s.k s.sheet p → Kplex m.marks k m.agrees p
  to_sheet p q =
      subst (λ f. Kplex m.marks k f p) w.sheet (subst (λ j. Kplex m.marks j s.sheet p) w.k_is
      (subst (λ n. Kplex n s.k s.sheet p) w.marks q))

  from_sheet : (p : Set) → Kplex m.marks k m.agrees p → Kplex s.marks s.k s.sheet p
  from_sheet p q =
      subst (λ n. Kplex n s.k s.sheet p) (sym w.marks) (subst (λ j. Kplex m.marks j s.sheet p) (sym w.k_is)
      (subst (λ f. Kplex m.marks k f p) (sym w.sheet) q))

  size_same : (p : Set) → card s.marks p ≡ card m.marks p
  size_same p = ap (λ n. card n p) w.marks

  table_plex : (p : Set) → Kplex s.marks s.k s.table p → Kplex m.marks k s.table p
  table_plex p q =
      subst (λ j. Kplex m.marks j s.table p) w.k_is (subst (λ n. Kplex n s.k s.table p) w.marks q)

pub first_group : FirstGroupStands
first_group = record {
  plex = λ m k rule s w. to_sheet m k rule s w s.held (made_sound m k rule s w).plex;
  under = λ m k rule s w p q.
      omega (arith, (made_sound m k rule s w).under p (from_sheet m k rule s w p q), size_same m k rule s w p);
  larger = λ m k rule s w p q l.
      let x = (made_sound m k rule s w).covers p (from_sheet m k rule s w p q)
      (omega (arith, size_same m k rule s w p, size_same m k rule s w s.held)) in
      (table_plex m k rule s w p x.0, x.1);
}

-- an answer that is a refusal is no other
not_ok : (e : SearchRefusal) (v : ℕ) → Err e ≡ Ok v → ⊥
not_ok e v p = true≢false (ap is_err p)
  where
    is_err : Result ℕ SearchRefusal → Bool
    is_err (Ok x) = false
    is_err (Err x) = true

judged : (s t : State) (list : List ℕ) (a : Answer (Offer list)) → RisingMarks s.marks list →
    Does s (Offer list) a t → Judges s list a t
judged s t list (Ok v) r d = record {
  taken = λ q l. (ap Ok d.1, ap (λ x. x.held) d.2);
  refused = λ h. absurd (h d.0.plex d.0.larger);
  size = rising_size s.marks list r;
}
judged s t list (Err BudgetOutOfRange) r d = absurd d.0
judged s t list (Err ListTooLong) r d = absurd (omega (arith, d.0, rising_size s.marks list r, card_le s.marks (among list)))
judged s t list (Err NotRisingMarks) r d = absurd (d.0.1 r)
judged s t list (Err NotPlex) r d = record {
  taken = λ q l. absurd (d.0.2 q);
  refused = λ h. (d.1, not_ok NotPlex);
  size = rising_size s.marks list r;
}
judged s t list (Err NotLarger) r d = record {
  taken = λ q l. absurd (omega (arith, d.0.3));
  refused = λ h. (d.1, not_ok NotLarger);
  size = rising_size s.marks list r;
}
judged s t list (Err NotSettled) r d = absurd d.0
judged s t list (Err TooFewPlaces) r d = absurd d.0

pub offers_are_taken_lem : OffersAreTaken
offers_are_taken_lem = judged

pub computed_is_the_same_lem : ComputedIsTheSame
computed_is_the_same_lem = record {
  peeled = λ n k a. peel_is n n k a (below n) (λ i t. ltb-true i n t) (card_le n (below n));
  one_peeled = peels_unique;
  trimmed = λ n k a h s c w v. trim_is n k a h s w n c v (card_le n c);
  one_trimmed = trim_unique;
  picked = λ n k a s c u w e. subst (PickedAt n k a s c) e (pick_is n k a s c w);
  one_picked = λ n k a s c u w h. split_picked n k a s c w u h;
  stepped = step_only;
  made = make_is;
  does = computed_does;
}
