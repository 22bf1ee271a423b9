-- What making leaves is sound.
use Rattle.std.proofs.Common.{ℕ, ◌+◌, ◌-◌, ◌^◌, ◌≤◌, ltb, sym, refl, ap, ◌∙◌, subst, inl, inr, arith}
use Rattle.std.proofs.lemmas.Bool.{cases_lt, cases_Bool, ltb-true, lt-ltb, and_parts, true≢false, false≢true}
use Rattle.plex.specs.Sets.{Set, Agreement, TwoWay, NoSelf, ◌⊑◌, card, below, Kplex}
use Rattle.plex.specs.Meaning.{Meaning}
use Rattle.plex.proofs.Count.{card_le}
use Rattle.plex.proofs.Within.{two_way}
use Rattle.pruning.specs.Pruned.{ends_needed, left_marks}
use Rattle.pruning.proofs.Striking.{plex_stays}
use Rattle.ceiling.specs.Rules.{Number}
use Rattle.searching.specs.First.{Peels}
use Rattle.searching.specs.States.{State, held_size, steps_over, steps_left}
use Rattle.searching.specs.Sound.{InSome, SoundBranches, Stacked, Sound}
use Rattle.searching.specs.Making.{Opens, Done, Made}
use Rattle.searching.proofs.First.{Stands, peels_stands}
use Rattle.searching.proofs.Branches.{steps_for_is, steps_for_mono}

no_self_part : (g r : Agreement) → g ⊑ r → NoSelf r → NoSelf g
no_self_part g r b h i = elim (cases_Bool (g i i)) [ inl t ↦ absurd (true≢false (sym (b i i t) ∙ h i)) | inr f ↦ f ]

-- facts of the sheet that making keeps
module _ (s : State) (few : s.marks ≤ 128) (two : TwoWay s.sheet) (self : NoSelf s.sheet)
    (first : Peels s.marks s.k s.sheet (below s.marks) s.held s.top) where
  found : Stands s.marks s.k s.sheet (below s.marks) s.held s.top
  found = peels_stands s.marks s.k s.sheet (below s.marks) s.held s.top (λ i t. ltb-true i s.marks t) first

  under : (p : Set) → Kplex s.marks s.k s.sheet p → card s.marks p ≤ s.top
  under p q = found.over p (λ i t. lt-ltb i s.marks (q i t).0) q

  abbrev left : Set
  left = left_marks s.marks (ends_needed s.k (held_size s)) s.table

  opens_sound : Opens s → Sound s
  opens_sound x = record {
    formed = record {
      few = few;
      branches = subst (SoundBranches s.marks s.k s.table (held_size s)) (sym x.branches) (
        record {
          chosen = λ i t. absurd (false≢true t);
          candidates = λ i t. ltb-true i s.marks (and_parts (ltb i s.marks) _ t).0;
          apart = λ i t. refl;
          plex = inl (λ i t. absurd (false≢true t));
        },
        tt,
      );
      stacked = subst (Stacked s.marks) (sym x.branches) tt;
    };
    both_ways = x.table.good.both;
    no_self = no_self_part s.table s.sheet x.table.part self;
    part = x.table.part;
    plex = found.plex;
    under = under;
    covers = λ p q l.
        let y = plex_stays s.marks s.k (held_size s) s.sheet s.table p two x.table q l in
        (y.0, subst (λ bs. InSome bs p) (sym x.branches) (inl ((λ i t. absurd (false≢true t)), y.1)));
  }

  done_sound : s.top ≤ held_size s → Done s → Sound s
  done_sound l x = record {
    formed = record {
      few = few;
      branches = subst (SoundBranches s.marks s.k s.table (held_size s)) (sym x.branches) tt;
      stacked = subst (Stacked s.marks) (sym x.branches) tt;
    };
    both_ways = subst TwoWay (sym x.table) two;
    no_self = subst NoSelf (sym x.table) self;
    part = λ i j t. ap (λ f. f i j) (sym x.table) ∙ t;
    plex = found.plex;
    under = under;
    covers = λ p q m. absurd (omega (arith, under p q));
  }

  opens_left : Opens s → steps_left s ≤ 2 ^ (s.marks + 1) - 1
  opens_left x =
      omega (arith, ap (steps_over s.marks) x.branches, steps_for_mono (card s.marks left) s.marks (card_le s.marks left), steps_for_is s.marks)

  done_left : Done s → steps_left s ≤ 2 ^ (s.marks + 1) - 1
  done_left x = omega (arith, ap (steps_over s.marks) x.branches)

module _ (m : Meaning) (k : ℕ) (rule : Number) (s : State) (w : Made m k rule s) where
  few_marks : s.marks ≤ 128
  few_marks = omega (arith, w.marks, m.few)

  goes_back : TwoWay s.sheet
  goes_back = subst TwoWay (sym w.sheet) (two_way m)

  not_self : NoSelf s.sheet
  not_self = subst NoSelf (sym w.sheet) m.irreflexive

  pub made_sound : Sound s
  made_sound =
      elim (cases_lt (held_size s) s.top) [
        | inl l ↦ opens_sound s few_marks goes_back not_self w.first (w.opens l)
        | inr l ↦ done_sound s few_marks goes_back not_self w.first l (w.done l)
      ]

  pub made_left : steps_left s ≤ 2 ^ (s.marks + 1) - 1
  made_left =
      elim (cases_lt (held_size s) s.top) [
        | inl l ↦ opens_left s few_marks goes_back not_self w.first (w.opens l)
        | inr l ↦ done_left s few_marks goes_back not_self w.first (w.done l)
      ]
