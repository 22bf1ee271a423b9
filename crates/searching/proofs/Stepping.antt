-- From a well-formed search that is not settled there is one step.
use Rattle.std.proofs.Common.{◌≡◌, ℕ, ◌+◌, Bool, true, false, leb, List, [], ◌∷◌, Some, None, Option, sym, refl, ap, ◌∙◌, subst, ap₂, inl, inr, arith}
use Rattle.std.proofs.lemmas.Bool.{cases_Bool, leb-true, le-leb, or_cases, or_left, or_right, true≢false}
use Rattle.plex.specs.Sets.{Set, card, ◌∪◌, Within, is_kplex}
use Rattle.plex.proofs.Count.{card_le, card_none, heredity}
use Rattle.plex.proofs.Decide.{kplex_decides}
use Rattle.ceiling.specs.Rules.{reply}
use Rattle.searching.specs.Trimming.{Trimmed}
use Rattle.searching.specs.States.{Branch, State, moved, held_size, none_open, settled, capped}
use Rattle.searching.specs.Steps.{SplitMark, Newest, Hopeless, WholePlex, Stepped}
use Rattle.searching.specs.Steps.Stepped.{closes, takes, splits}
use Rattle.searching.specs.Sound.{SoundBranch, SoundBranches, Formed}
use Rattle.searching.specs.Computed.{trim, pick, split_at, decide_step, is_hopeless, step_trimmed, step_at, next}
use Rattle.searching.proofs.Trimming.{trim_is, trim_unique}
use Rattle.searching.proofs.Choosing.{PickedAt, pick_is, split_picked}

hopeless_from : (s : State) (chosen c : Set) → is_hopeless s chosen c ≡ true → Hopeless s chosen c
hopeless_from s chosen c e =
    let x = card s.marks chosen + card s.marks c in
    let y = reply s.rule s.k s.table chosen c in
    elim (or_cases (leb x (held_size s)) (leb y (held_size s)) e) [
      | inl t ↦ inl (leb-true x (held_size s) t)
      | inr t ↦ inr (leb-true y (held_size s) t)
    ]

hopeless_to : (s : State) (chosen c : Set) → Hopeless s chosen c → is_hopeless s chosen c ≡ true
hopeless_to s chosen c (inl l) = or_left (leb (card s.marks chosen + card s.marks c) (held_size s)) _ (le-leb _ _ l)
hopeless_to s chosen c (inr l) = or_right (leb (card s.marks chosen + card s.marks c) (held_size s)) _ (le-leb _ _ l)

hopeless_not : (s : State) (chosen c : Set) → (Hopeless s chosen c → ⊥) → is_hopeless s chosen c ≡ false
hopeless_not s chosen c h = elim (cases_Bool (is_hopeless s chosen c)) [ inl t ↦ absurd (h (hopeless_from s chosen c t)) | inr f ↦ f ]

module _ (s : State) (o : Formed s) (b : Branch) (older : List Branch) (e : s.branches ≡ b ∷ older) where
  own : SoundBranch s.marks s.k s.table (held_size s) b
  own = (subst (SoundBranches s.marks s.k s.table (held_size s)) e o.branches).0

  abbrev trimmed : Set
  trimmed = trim s.marks s.marks s.k s.table (held_size s) b.chosen b.candidates

  trimmed_is : Trimmed s.marks s.k s.table (held_size s) b.chosen b.candidates trimmed
  trimmed_is =
      trim_is s.marks s.k s.table (held_size s) b.chosen own.chosen s.marks b.candidates own.candidates
      (card_le s.marks b.candidates)

  here : Newest s b older trimmed
  here = record { newest = e; trimmed = trimmed_is }

  next_is : next s ≡ step_trimmed s b older trimmed
  unfolding next
  next_is = ap (step_at s) e

  -- what holds of any set that the candidates may be trimmed to
  module _ (c : Set) (w : Newest s b older c) where
    within : Within s.marks c
    within i t = own.candidates i (w.trimmed.part i t)

    all_within : Within s.marks (b.chosen ∪ c)
    all_within i t = elim (or_cases (b.chosen i) (c i) t) [ inl x ↦ own.chosen i x | inr x ↦ within i x ]

    next_with : next s ≡ step_trimmed s b older c
    next_with =
        next_is ∙ ap (step_trimmed s b older)
        (trim_unique s.marks s.k s.table (held_size s) b.chosen b.candidates trimmed c trimmed_is w.trimmed)

    whole_from : is_kplex s.marks s.k s.table (b.chosen ∪ c) ≡ true → WholePlex s b.chosen c
    whole_from = (kplex_decides s.marks s.k s.table (b.chosen ∪ c) all_within).0

    whole_to : WholePlex s b.chosen c → is_kplex s.marks s.k s.table (b.chosen ∪ c) ≡ true
    whole_to = (kplex_decides s.marks s.k s.table (b.chosen ∪ c) all_within).1

    whole_not : (WholePlex s b.chosen c → ⊥) → is_kplex s.marks s.k s.table (b.chosen ∪ c) ≡ false
    whole_not h =
        elim (cases_Bool (is_kplex s.marks s.k s.table (b.chosen ∪ c))) [ inl t ↦ absurd (h (whole_from t)) | inr f ↦ f ]

    -- a branch without candidates is hopeless, or its chosen marks are a k-plex
    no_candidate : ((i : ℕ) → c i ≡ false) → (Hopeless s b.chosen c → ⊥) → (WholePlex s b.chosen c → ⊥) → ⊥
    no_candidate f h q =
        elim own.plex [
          | inl p ↦ q (heredity s.marks s.k s.table (b.chosen ∪ c) b.chosen (λ i t. let z = f i in grind arith) p)
          | inr l ↦ h (inl (omega (arith, card_none s.marks c (λ i _. f i))))
        ]

    split_is : (Hopeless s b.chosen c → ⊥) → (WholePlex s b.chosen c → ⊥) → (p : Option ℕ) → pick s.marks s.k s.table b.chosen c ≡ p →
        Stepped s (split_at s b c older p)
    split_is h q None f = absurd (no_candidate (picked_none f) h q)
      where
        picked_none : pick s.marks s.k s.table b.chosen c ≡ None → (i : ℕ) → c i ≡ false
        picked_none x = subst (PickedAt s.marks s.k s.table b.chosen c) x (pick_is s.marks s.k s.table b.chosen c within)
    split_is h q (Some u) f =
        splits b older c u w h q (subst (PickedAt s.marks s.k s.table b.chosen c) f (pick_is s.marks s.k s.table b.chosen c within))

    decide_is : (x y : Bool) → is_hopeless s b.chosen c ≡ x → is_kplex s.marks s.k s.table (b.chosen ∪ c) ≡ y →
        Stepped s (decide_step s b c older x y)
    decide_is true y f g = closes b older c w (hopeless_from s b.chosen c f)
    decide_is false true f g = takes b older c w (λ h. true≢false (sym (hopeless_to s b.chosen c h) ∙ f)) (whole_from g)
    decide_is false false f g =
        split_is (λ h. true≢false (sym (hopeless_to s b.chosen c h) ∙ f)) (λ q. true≢false (sym (whole_to q) ∙ g))
        (pick s.marks s.k s.table b.chosen c) refl

    closes_is : Hopeless s b.chosen c → next s ≡ moved s s.held older (capped (s.taken + 1))
    closes_is h =
        next_with ∙ ap (λ x. decide_step s b c older x (is_kplex s.marks s.k s.table (b.chosen ∪ c))) (hopeless_to s b.chosen c h)

    takes_is : (Hopeless s b.chosen c → ⊥) → WholePlex s b.chosen c → next s ≡ moved s (b.chosen ∪ c) older (capped (s.taken + 1))
    takes_is h q = next_with ∙ ap₂ (decide_step s b c older) (hopeless_not s b.chosen c h) (whole_to q)

    splits_is : (u : ℕ) → (Hopeless s b.chosen c → ⊥) → (WholePlex s b.chosen c → ⊥) → SplitMark s.marks s.k s.table b.chosen c u →
        next s ≡ split_at s b c older (Some u)
    splits_is u h q v =
        next_with ∙ ap₂ (decide_step s b c older) (hopeless_not s b.chosen c h) (whole_not q)
        ∙ ap (split_at s b c older) (split_picked s.marks s.k s.table b.chosen c within u v)

  pub step_here : Stepped s (next s)
  step_here = subst (Stepped s) (sym next_is) (decide_is trimmed here _ _ refl refl)

-- a step leaves what was computed
pub step_only : (s t : State) → Formed s → Stepped s t → t ≡ next s
step_only s t o (closes b older c w h) = sym (closes_is s o b older w.newest c w h)
step_only s t o (takes b older c w h q) = sym (takes_is s o b older w.newest c w h q)
step_only s t o (splits b older c u w h q v) = sym (splits_is s o b older w.newest c w u h q v)

-- and there is one unless the search is settled
pub step_exists : (s : State) → Formed s → settled s ≡ false → Stepped s (next s)
step_exists s o e = at s.branches refl
  where
    at : (bs : List Branch) → s.branches ≡ bs → Stepped s (next s)
    at [] f = absurd (true≢false (sym (ap none_open f) ∙ e))
    at (b ∷ older) f = step_here s o b older f

pub settled_next : (s : State) → settled s ≡ true → next s ≡ s
unfolding next
settled_next s e = at s.branches refl
  where
    at : (bs : List Branch) → s.branches ≡ bs → step_at s s.branches ≡ s
    at [] f = ap (step_at s) f
    at (b ∷ older) f = absurd (true≢false (sym e ∙ ap none_open f))
