-- What the open branches owe is kept by every step and by every offer that is taken, and a step lowers what is left.
use Rattle.std.proofs.Common.{◌≡◌, ℕ, ◌+◌, ◌<◌, ◌≤◌, true, List, ◌∷◌, ap, subst, inl, inr, le_refl, arith}
use Rattle.std.proofs.lemmas.Bool.Decides.{nat_tests}
use Rattle.std.proofs.lemmas.Bool.{cases_lt, cases_Bool, and_parts}
use Rattle.plex.specs.Sets.{Set, Agreement, card, ◌∩◌, ◌∪◌, ◌∖◌, only, ◌⊆◌, Kplex, Within}
use Rattle.plex.proofs.Count.{card_mono, card_less, card_le, card_or, card_none, card_some}
use Rattle.searching.specs.States.{Branch, branch, State, moved, held_size, steps_for, steps_over, steps_left, capped}
use Rattle.searching.specs.Steps.{tight, SplitMark, Newest, Hopeless, Stepped}
use Rattle.searching.specs.Steps.Stepped.{closes, takes, splits}
use Rattle.searching.specs.Sound.{SoundBranch, SoundBranches, Stacked, Formed}
use Rattle.searching.proofs.Branches.{sound_raise, widening_lower, stacked_pop, steps_for_some, steps_for_mono, steps_for_more}

-- the mark to split by is a candidate
pub split_member : (n k : ℕ) (a : Agreement) (s c : Set) (u : ℕ) → Within n c → SplitMark n k a s c u → c u ≡ true
split_member n k a s c u w h =
    elim (cases_lt 0 (card n (tight n k a s c))) [
      | inl l ↦ (let v = card_some n (tight n k a s c) l in (and_parts (c u) _ (h.among_tight v.0 v.2).member).0)
      | inr l ↦ (h.among_all (λ v. elim (cases_Bool (tight n k a s c v)) [
        | inl t ↦ absurd (omega (arith, card_less n (tight n k a s c) v (w v (and_parts (c v) _ t).0) t))
        | inr f ↦ f
      ])).member
    ]

with_u : (n k : ℕ) (a : Agreement) (h : ℕ) (b : Branch) (c : Set) (u : ℕ) → c ⊆ b.candidates → c u ≡ true → Kplex n k a (b.chosen ∪ only u) →
    SoundBranch n k a h b → SoundBranch n k a h (branch (b.chosen ∪ only u) (c ∖ only u))
with_u n k a h b c u part m q o = record {
  chosen = λ i t. (q i t).0;
  candidates = λ i t. o.candidates i (part i (and_parts (c i) _ t).0);
  apart = λ i t. let z = o.apart i in let y = part i in grind (arith, nat_tests);
  plex = inl q;
}

without_u : (n k : ℕ) (a : Agreement) (h : ℕ) (b : Branch) (c : Set) (u : ℕ) → c ⊆ b.candidates →
    SoundBranch n k a h b → SoundBranch n k a h (branch b.chosen (c ∖ only u))
without_u n k a h b c u part o = record {
  chosen = o.chosen;
  candidates = λ i t. o.candidates i (part i (and_parts (c i) _ t).0);
  apart = λ i t. let z = o.apart i in let y = part i in grind arith;
  plex = o.plex;
}

pub formed_offer : (s : State) → Formed s → (p : Set) → held_size s < card s.marks p → Formed (moved s p s.branches s.taken)
formed_offer s o p l = record {
  few = o.few;
  branches = sound_raise s.marks s.k s.table (held_size s) (card s.marks p) s.branches (omega arith) o.branches;
  stacked = o.stacked;
}

module _ (s : State) (o : Formed s) (b : Branch) (older : List Branch) (c : Set) (w : Newest s b older c) where
  pub own : SoundBranches s.marks s.k s.table (held_size s) (b ∷ older)
  own = subst (SoundBranches s.marks s.k s.table (held_size s)) w.newest o.branches

  stack : Stacked s.marks (b ∷ older)
  stack = subst (Stacked s.marks) w.newest o.stacked

  pub within : Within s.marks c
  within i t = own.0.candidates i (w.trimmed.part i t)

  pub fewer : card s.marks c ≤ card s.marks b.candidates
  fewer = card_mono s.marks c b.candidates w.trimmed.part

  pub larger : (Hopeless s b.chosen c → ⊥) → held_size s < card s.marks b.chosen + card s.marks c
  larger h =
      elim (cases_lt (held_size s) (card s.marks b.chosen + card s.marks c)) [ inl l ↦ l | inr l ↦ absurd (h (inl l)) ]

  -- no mark is counted twice
  pub together : card s.marks (b.chosen ∪ c) ≡ card s.marks b.chosen + card s.marks c
  together =
      let e = card_or s.marks b.chosen c in
      let f = card_none s.marks (b.chosen ∩ c) (λ i _. let z = own.0.apart i in let y = w.trimmed.part i in grind arith) in
      omega arith

  pub formed_closes : Formed (moved s s.held older (capped (s.taken + 1)))
  formed_closes = record { few = o.few; branches = own.1; stacked = stacked_pop s.marks b older stack }

  pub formed_takes : (Hopeless s b.chosen c → ⊥) → Formed (moved s (b.chosen ∪ c) older (capped (s.taken + 1)))
  formed_takes h = record {
    few = o.few;
    branches = sound_raise s.marks s.k s.table (held_size s) (card s.marks (b.chosen ∪ c)) older (omega (arith, larger h, together)) own.1;
    stacked = stacked_pop s.marks b older stack;
  }

  pub formed_splits : (u : ℕ) → SplitMark s.marks s.k s.table b.chosen c u →
      Formed (moved s s.held (branch (b.chosen ∪ only u) (c ∖ only u) ∷ branch b.chosen (c ∖ only u) ∷ older) (capped (s.taken + 1)))
  formed_splits u v =
      let m = split_member s.marks s.k s.table b.chosen c u within v in
      let less = card_less s.marks c u (within u m) m in
      let g = fewer in
      let le = card_le s.marks c in record {
        few = o.few;
        branches = (
          with_u s.marks s.k s.table (held_size s) b c u w.trimmed.part m (w.trimmed.fits u m).0 own.0,
          (without_u s.marks s.k s.table (held_size s) b c u w.trimmed.part own.0, own.1),
        );
        stacked = (
          le_refl _,
          omega arith,
          widening_lower s.marks (card s.marks b.candidates) (card s.marks (c ∖ only u) + 1) older (omega arith) stack,
        );
      }

  fall_closes : (h : Set) → steps_over s.marks older < steps_left s
  fall_closes h = omega (arith, ap (steps_over s.marks) w.newest, steps_for_some (card s.marks b.candidates))

  fall_splits : (u : ℕ) → SplitMark s.marks s.k s.table b.chosen c u →
      steps_over s.marks (branch (b.chosen ∪ only u) (c ∖ only u) ∷ branch b.chosen (c ∖ only u) ∷ older) < steps_left s
  fall_splits u v =
      let m = split_member s.marks s.k s.table b.chosen c u within v in
      omega (
        arith,
        ap (steps_over s.marks) w.newest,
        steps_for_mono (card s.marks c) (card s.marks b.candidates) fewer,
        ap steps_for (card_less s.marks c u (within u m) m),
        steps_for_more (card s.marks (c ∖ only u)),
      )

pub formed_step : (s t : State) → Formed s → Stepped s t → Formed t
formed_step s t o (closes b older c w h) = formed_closes s o b older c w
formed_step s t o (takes b older c w h q) = formed_takes s o b older c w h
formed_step s t o (splits b older c u w h q v) = formed_splits s o b older c w u v

-- a step taken lowers what is left
pub step_falls : (s t : State) → Formed s → Stepped s t → steps_left t < steps_left s
step_falls s t o (closes b older c w h) = fall_closes s o b older c w s.held
step_falls s t o (takes b older c w h q) = fall_closes s o b older c w s.held
step_falls s t o (splits b older c u w h q v) = fall_splits s o b older c w u v
