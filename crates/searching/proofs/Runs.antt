-- The law over runs, from any sound state on.
use Rattle.std.proofs.Common.{◌≡◌, ℕ, ◌+◌, ◌≤◌, true, ◌⊎◌, List, length, take, drop, Ok, Err, Result, sym, refl, ap, ◌∙◌, subst, inl, inr, arith}
use Rattle.std.proofs.lemmas.List.{take-append-le, take_all}
use Rattle.std.proofs.lemmas.Bool.{cases_lt, true≢false}
use Rattle.plex.specs.Sets.{card, rising, among}
use Rattle.plex.proofs.Rising.{length_rising}
use Rattle.ceiling.specs.Rules.{Lawful}
use Rattle.searching.specs.States.{State, moved, held_size, ceiling, steps_left, none_open, settled}
use Rattle.searching.specs.Steps.{Stepped, Steps, still, onward}
use Rattle.searching.specs.Steps.Stepped.{closes, takes, splits}
use Rattle.searching.specs.Sound.{Sound}
use Rattle.searching.specs.Calls.{Call, Step, Run, Offer, Report, Tally, CopyOut, Answer, Ran, Takes, CopiedOut, Does}
use Rattle.searching.specs.Runs.{pays, Reached, at_once, and_then}
use Rattle.searching.specs.Law.{Keeps, TheLawFromSound}
use Rattle.searching.proofs.Branches.{none_left}
use Rattle.searching.proofs.Forming.{step_falls}
use Rattle.searching.proofs.Soundness.{After, after_none, after_both, after_step, sound_ceiling, sound_settled, sound_offer}

-- what a call leaves that pays for m steps
pub record Turn (s : State) (m : ℕ) (t : State) : Type 0 where
  pub after : After s t
  pub fell : (steps_left t + m ≤ steps_left s) ⊎ (settled t ≡ true)
  pub stays : settled s ≡ true → settled t ≡ true

no_turn : (s : State) → Sound s → Turn s 0 s
no_turn s o = record { after = after_none s o; fell = inl (omega arith); stays = λ e. e }

same_turn : (s t : State) → Sound s → t ≡ s → Turn s 0 t
same_turn s t o e = subst (λ x. Turn s 0 x) (sym e) (no_turn s o)

both_turns : (s t u : State) (m m' : ℕ) → Turn s m t → Turn t m' u → Turn s (m + m') u
both_turns s t u m m' p q = record {
  after = after_both s t u p.after q.after;
  fell = elim q.fell [ inr f ↦ inr f | inl f ↦ elim p.fell [ inr g ↦ inr (q.stays g) | inl g ↦ inl (omega arith) ] ];
  stays = λ e. q.stays (p.stays e);
}

-- a settled search takes no step
pub settled_stops : (s t : State) → settled s ≡ true → Stepped s t → ⊥
settled_stops s t e (closes b older c w h) = true≢false (sym e ∙ ap none_open w.newest)
settled_stops s t e (takes b older c w h q) = true≢false (sym e ∙ ap none_open w.newest)
settled_stops s t e (splits b older c u w h q v) = true≢false (sym e ∙ ap none_open w.newest)

turn_step : (s t : State) → Sound s → Lawful s.rule → Stepped s t → Turn s 1 t
turn_step s t o law p = record {
  after = after_step s t o law p;
  fell = inl (omega (arith, step_falls s t o.formed p));
  stays = λ e. absurd (settled_stops s t e p);
}

lawful_on : (s t : State) → After s t → Lawful s.rule → Lawful t.rule
lawful_on s t p law = subst Lawful (sym p.rule) law

turn_steps : (m : ℕ) (s t : State) → Sound s → Lawful s.rule → Steps m s t → Turn s m t
turn_steps m s t o law still = no_turn s o
turn_steps m s t o law (onward {count = x} {s' = u} p q) =
    let a = turn_steps x s u o law p in
    both_turns s u t x 1 a (turn_step u t a.after.sound (lawful_on s u a.after law) q)

turn_run : (budget : ℕ) (s : State) (m : ℕ) (t : State) → Sound s → Lawful s.rule → Ran budget s m t → Turn s budget t
turn_run budget s m t o law r =
    let a = turn_steps m s t o law r.taken in record {
      after = a.after;
      fell = elim (cases_lt m budget) [
        | inl l ↦ inr (r.until l)
        | inr l ↦ elim a.fell [ inl f ↦ inl (omega (arith, r.within)) | inr f ↦ inr f ]
      ];
      stays = a.stays;
    }

turn_offer : (s t : State) (list : List ℕ) → Sound s → Takes s list → t ≡ moved s (among list) s.branches s.taken → Turn s 0 t
turn_offer s t list o p e =
    subst (λ x. Turn s 0 x) (sym e) (record {
      after = sound_offer s o (among list) p.plex p.larger;
      fell = inl (omega arith);
      stays = λ y. y;
    })

-- every call keeps soundness, lets the group held grow and the ceiling sink, and lowers what is left by what it pays for
pub turn : (s t : State) → Sound s → Lawful s.rule → (c : Call) (a : Answer c) → Does s c a t → Turn s (pays c a) t
turn s t o law Step a (inl d) = turn_step s t o law d.1
turn s t o law Step a (inr d) =
    subst (λ x. Turn s 1 x) (sym d.2) (record { after = after_none s o; fell = inr d.1; stays = λ e. e })
turn s t o law (Run budget) (Ok m) d = turn_run budget s m t o law d.1
turn s t o law (Run budget) (Err e) d = same_turn s t o d.1
turn s t o law (Offer list) (Ok v) d = turn_offer s t list o d.0 d.2
turn s t o law (Offer list) (Err e) d = same_turn s t o d.1
turn s t o law Report a d = same_turn s t o d.2
turn s t o law Tally a d = same_turn s t o d.3
turn s t o law (CopyOut places) a d = same_turn s t o d.1

pub turns : (s t : State) (paid : ℕ) → Sound s → Lawful s.rule → Reached Does s paid t → Turn s paid t
turns s t paid o law at_once = no_turn s o
turns s t paid o law (and_then {t = u} {paid = m} c a r d) =
    let p = turns s u m o law r in
    both_turns s u t m (pays c a) p (turn u t p.after.sound (lawful_on s u p.after law) c a d)

copied : (t : State) (places : List ℕ) (r : Result ℕ _) (places' : List ℕ) (count : ℕ) → CopiedOut t places r places' → r ≡ Ok count →
    (settled t ≡ true) × (count ≡ held_size t) × (take count places' ≡ rising t.marks t.held)
copied t places r places' count d e =
    let w = subst (λ x. CopiedOut t places x places') e d in
    let l = rising t.marks t.held in
    let long : count ≡ length l = w.count_is ∙ sym (length_rising t.marks t.held) in
    (w.done, w.count_is, ap (take count) w.written ∙ take-append-le count l (drop (held_size t) places) (omega arith) ∙ take_all count l (omega arith))

-- what is kept, in the point's own terms
keeps : (s t : State) (paid : ℕ) → Lawful s.rule → Turn s paid t →
    Keeps Does (λ x. x.held) ceiling settled t.marks t.k t.sheet (steps_left s) paid t
keeps s t paid law p =
    let o = p.after.sound in record {
      plex = o.plex;
      under = sound_ceiling t o;
      later = λ more u r.
          let q = turns t u more o (lawful_on s t p.after law) r in
          (omega (arith, q.after.up, ap (λ n. card n u.held) q.after.marks), q.after.down);
      meets = sound_settled t o;
      largest = λ e q b. omega (arith, sound_ceiling t o q b, sound_settled t o e);
      ends = λ l. elim p.fell [ inl f ↦ none_left t.marks t.branches (omega arith) | inr f ↦ f ];
      reports = λ a u d. (d.0, d.1);
      tallies = λ a u d. d.2;
      copies = λ places places' count u d. copied t places (Ok count) places' count d.0 refl;
    }

pub law_from_sound : TheLawFromSound
law_from_sound s o law paid t r =
    let p = turns s t paid o law r in
    let a = p.after in
    let x = keeps s t paid law p in
    let y = subst (λ n. Keeps Does (λ x. x.held) ceiling settled n t.k t.sheet (steps_left s) paid t) a.marks x in
    let z = subst (λ k. Keeps Does (λ x. x.held) ceiling settled s.marks k t.sheet (steps_left s) paid t) a.k_same y in
    subst (λ f. Keeps Does (λ x. x.held) ceiling settled s.marks s.k f (steps_left s) paid t) a.sheet z
