-- Soundness is kept by steps and by offers, and what it gives.
use Rattle.std.proofs.Common.{◌≡◌, ℕ, ◌+◌, ◌<◌, ◌≤◌, true, ◌⊎◌, List, ◌∷◌, refl, ap, ◌∙◌, subst, inl, inr, le_refl, arith}
use Rattle.std.proofs.lemmas.Bool.Decides.{nat_tests}
use Rattle.std.proofs.lemmas.Bool.{cases_lt, cases_Bool}
use Rattle.plex.specs.Sets.{Set, card, ◌∪◌, ◌∖◌, only, Kplex}
use Rattle.plex.proofs.Count.{card_mono, card_less, card_or, card_only}
use Rattle.pruning.proofs.Striking.{plex_up}
use Rattle.ceiling.specs.Rules.{Between, Lawful}
use Rattle.ceiling.proofs.Lawful.{between_size}
use Rattle.searching.specs.States.{Branch, branch, State, moved, held_size, widest, ceiling, settled, capped}
use Rattle.searching.specs.Steps.{SplitMark, Newest, Hopeless, WholePlex, Stepped}
use Rattle.searching.specs.Steps.Stepped.{closes, takes, splits}
use Rattle.searching.specs.Sound.{InSome, Sound}
use Rattle.searching.proofs.Trimming.{trim_keeps}
use Rattle.searching.proofs.Branches.{rule_bounds, in_widest, open_none}
use Rattle.searching.proofs.Forming.{split_member, formed_offer, within, fewer, larger, together, formed_closes, formed_takes, formed_splits}

-- the branch with u, and the branch without: no k-plex is lost
covers_split : (s c : Set) (u : ℕ) (older : List Branch) (p : Set) → Between s c p ⊎ InSome older p →
    InSome (branch (s ∪ only u) (c ∖ only u) ∷ branch s (c ∖ only u) ∷ older) p
covers_split s c u older p (inr o) = inr (inr o)
covers_split s c u older p (inl b) =
    elim (cases_Bool (p u)) [
      | inl e ↦ inl ((λ i m. let z = b.0 i in grind (arith, nat_tests)), (λ i m. let z = b.1 i m in grind (arith, nat_tests)))
      | inr e ↦ inr (inl (b.0, (λ i m. let z = b.1 i m in grind (arith, nat_tests))))
    ]

-- what every call leaves: the same sheet, k and rule, a sound search, no smaller group and no higher ceiling
pub record After (s t : State) : Type 0 where
  pub marks : t.marks ≡ s.marks
  pub k_same : t.k ≡ s.k
  pub sheet : t.sheet ≡ s.sheet
  pub rule : t.rule ≡ s.rule
  pub sound : Sound t
  pub up : held_size s ≤ held_size t
  pub down : ceiling t ≤ ceiling s

pub after_none : (s : State) → Sound s → After s s
after_none s o = record { marks = refl; k_same = refl; sheet = refl; rule = refl; sound = o; up = le_refl _; down = le_refl _ }

pub after_both : (s t u : State) → After s t → After t u → After s u
after_both s t u p q = record {
  marks = q.marks ∙ p.marks;
  k_same = q.k_same ∙ p.k_same;
  sheet = q.sheet ∙ p.sheet;
  rule = q.rule ∙ p.rule;
  sound = q.sound;
  up = omega (arith, p.up, q.up);
  down = omega (arith, p.down, q.down);
}

-- no k-plex of the sheet has more marks than the ceiling
pub sound_ceiling : (s : State) → Sound s → (p : Set) → Kplex s.marks s.k s.sheet p → card s.marks p ≤ ceiling s
sound_ceiling s o p q =
    let u = o.under p q in
    elim (cases_lt (held_size s) (card s.marks p)) [
      | inl l ↦ omega (arith, in_widest s.marks s.k s.table s.branches p (o.covers p q l).1)
      | inr l ↦ omega arith
    ]

pub sound_settled : (s : State) → Sound s → settled s ≡ true → ceiling s ≡ held_size s
sound_settled s o e = omega (arith, o.under s.held o.plex, ap (widest s.marks) (open_none s.branches e))

-- a larger k-plex of the sheet may be held instead
pub sound_offer : (s : State) → Sound s → (p : Set) → Kplex s.marks s.k s.sheet p → held_size s < card s.marks p →
    After s (moved s p s.branches s.taken)
sound_offer s o p q l = record {
  marks = refl;
  k_same = refl;
  sheet = refl;
  rule = refl;
  sound = record {
    formed = formed_offer s o.formed p l;
    both_ways = o.both_ways;
    no_self = o.no_self;
    part = o.part;
    plex = q;
    under = o.under;
    covers = λ p' q' m. o.covers p' q' (omega arith);
  };
  up = omega arith;
  down = omega (arith, sound_ceiling s o p q);
}

module _ (s : State) (o : Sound s) (b : Branch) (older : List Branch) (c : Set) (w : Newest s b older c) where
  wide : widest s.marks s.branches ≡ widest s.marks (b ∷ older)
  wide = ap (widest s.marks) w.newest

  -- trimming loses no larger k-plex
  cover : (p : Set) → Kplex s.marks s.k s.sheet p → held_size s < card s.marks p →
      Kplex s.marks s.k s.table p × (Between b.chosen c p ⊎ InSome older p)
  cover p q l =
      let x = o.covers p q l in (
        x.0,
        elim (subst (λ bs. InSome bs p) w.newest x.1) [
          | inl y ↦ inl (trim_keeps s.marks s.k s.table (held_size s) b.chosen b.candidates c w.trimmed p x.0 l y)
          | inr y ↦ inr y
        ],
      )

  after_closes : Lawful s.rule → Hopeless s b.chosen c → After s (moved s s.held older (capped (s.taken + 1)))
  after_closes law h = record {
    marks = refl;
    k_same = refl;
    sheet = refl;
    rule = refl;
    sound = record {
      formed = formed_closes s o.formed b older c w;
      both_ways = o.both_ways;
      no_self = o.no_self;
      part = o.part;
      plex = o.plex;
      under = o.under;
      covers = λ p q l. let x = cover p q l in (
        x.0,
        elim x.1 [
          | inl y ↦ absurd (elim h [
            | inl e ↦ omega (arith, between_size s.marks b.chosen c p y)
            | inr e ↦ omega (arith, rule_bounds s.marks s.k s.table s.rule b.chosen c p o.formed.few law o.both_ways o.no_self (within s o.formed b older c w) x.0 y)
          ])
          | inr y ↦ y
        ],
      );
    };
    up = omega arith;
    down = omega (arith, wide);
  }

  after_takes : (Hopeless s b.chosen c → ⊥) → WholePlex s b.chosen c → After s (moved s (b.chosen ∪ c) older (capped (s.taken + 1)))
  after_takes h q =
      let l = larger s o.formed b older c w h in
      let e = together s o.formed b older c w in
      let g = fewer s o.formed b older c w in
      let more : held_size s ≤ card s.marks (b.chosen ∪ c) = omega arith in record {
        marks = refl;
        k_same = refl;
        sheet = refl;
        rule = refl;
        sound = record {
          formed = formed_takes s o.formed b older c w h;
          both_ways = o.both_ways;
          no_self = o.no_self;
          part = o.part;
          plex = plex_up s.marks s.k s.table s.sheet (b.chosen ∪ c) o.part q;
          under = o.under;
          covers = λ p q' m. let x = cover p q' (omega arith) in (
            x.0,
            elim x.1 [
              | inl y ↦ absurd (omega (arith, card_mono s.marks p (b.chosen ∪ c) y.1))
              | inr y ↦ y
            ],
          );
        };
        up = more;
        down = omega (arith, wide);
      }

  after_splits : (u : ℕ) → SplitMark s.marks s.k s.table b.chosen c u →
      After s (moved s s.held (branch (b.chosen ∪ only u) (c ∖ only u) ∷ branch b.chosen (c ∖ only u) ∷ older) (capped (s.taken + 1)))
  after_splits u v =
      let m = split_member s.marks s.k s.table b.chosen c u (within s o.formed b older c w) v in
      let lt = within s o.formed b older c w u m in
      let less = card_less s.marks c u lt m in
      let g = fewer s o.formed b older c w in record {
        marks = refl;
        k_same = refl;
        sheet = refl;
        rule = refl;
        sound = record {
          formed = formed_splits s o.formed b older c w u v;
          both_ways = o.both_ways;
          no_self = o.no_self;
          part = o.part;
          plex = o.plex;
          under = o.under;
          covers = λ p q l. let x = cover p q l in (x.0, covers_split b.chosen c u older p x.1);
        };
        up = omega arith;
        down = omega (arith, wide, card_or s.marks b.chosen (only u), card_only s.marks u lt);
      }

pub after_step : (s t : State) → Sound s → Lawful s.rule → Stepped s t → After s t
after_step s t o law (closes b older c w h) = after_closes s o b older c w law h
after_step s t o law (takes b older c w h q) = after_takes s o b older c w h q
after_step s t o law (splits b older c u w h q v) = after_splits s o b older c w u v
