-- The search that making leaves exists, and there is one.
use Rattle.std.proofs.Common.{◌≡◌, ℕ, ◌<◌, ◌≤◌, Bool, true, false, ltb, [], ◌∷◌, sym, refl, ap, ◌∙◌, subst, inl, inr, arith}
use Rattle.std.proofs.lemmas.Bool.{cases_lt, ltb-true, ltb-false, lt-ltb, le-ltb}
use Rattle.plex.specs.Sets.{Agreement, TwoWay, Among, card, none, below}
use Rattle.plex.specs.Meaning.{Meaning}
use Rattle.plex.proofs.Count.{card_le}
use Rattle.pruning.specs.Pruned.{Largest, ends_needed, shared_needed, left_marks}
use Rattle.pruning.proofs.Laws.{co_pruning}
use Rattle.ceiling.specs.Rules.{Number}
use Rattle.searching.specs.First.{Peels}
use Rattle.searching.specs.States.{branch, State, held_size}
use Rattle.searching.specs.Making.{Opens, Done, Made}
use Rattle.searching.specs.Exactness.{MakingIsExact}
use Rattle.searching.specs.Computed.{Found, peel, pruned_at, table_at, branches_at, make}
use Rattle.searching.proofs.First.{peel_is, peels_unique}
use Rattle.searching.proofs.States.{state_same}
use Rattle.searching.proofs.Making.{made_sound}
use Rattle.plex.proofs.Within.{two_way, among}

module _ (n k : ℕ) (a : Agreement) (rule : Number) (inside : Among n a) (two : TwoWay a) where
  abbrev found : Found
  found = peel n n k a (below n)

  abbrev h : ℕ
  h = card n found.group

  found_is : Peels n k a (below n) found.group found.top
  found_is = peel_is n n k a (below n) (λ i t. ltb-true i n t) (card_le n (below n))

  pruned_is : Largest n (ends_needed k h) (shared_needed k h) a (pruned_at n k a h)
  pruned_is = co_pruning.by_rounds n (ends_needed k h) (shared_needed k h) a inside two

  -- a search with these marks, this k, sheet and rule, this first group and top, and the table and branches that go with them
  pub unmade : (s : State) → s.marks ≡ n → s.k ≡ k → s.sheet ≡ a → s.rule ≡ rule →
      Peels s.marks s.k s.sheet (below s.marks) s.held s.top → (held_size s < s.top → Opens s) → (s.top ≤ held_size s → Done s) →
      s.taken ≡ 0 → s ≡ make n k a rule
  unmade s em ek es er first opens done et =
      let p₁ = subst (λ m. Peels m s.k s.sheet (below m) s.held s.top) em first in
      let p₂ = subst (λ j. Peels n j s.sheet (below n) s.held s.top) ek p₁ in
      let p₃ = subst (λ f. Peels n k f (below n) s.held s.top) es p₂ in
      let u = peels_unique n k a (below n) s.held found.group s.top found.top p₃ found_is in
      let eh : held_size s ≡ h = λ i. card (em i) (u.0 i) in
      let rest : (s.table ≡ (make n k a rule).table) × (s.branches ≡ (make n k a rule).branches) =
      elim (cases_lt (held_size s) s.top) [
        | inl l ↦ (let o = opens l in
            let t : ltb h found.top ≡ true = lt-ltb h found.top (omega (arith, u.1)) in
            let g : Largest n (ends_needed k h) (shared_needed k h) a s.table =
            subst (λ f. Largest n (ends_needed k h) (shared_needed k h) f s.table) es
            (subst (λ x. Largest n (ends_needed k x) (shared_needed k x) s.sheet s.table) eh
            (subst (λ j. Largest n (ends_needed j (held_size s)) (shared_needed j (held_size s)) s.sheet s.table) ek
            (subst (λ m. Largest m (ends_needed s.k (held_size s)) (shared_needed s.k (held_size s)) s.sheet s.table) em o.table))) in
            let e : s.table ≡ pruned_at n k a h =
            co_pruning.unique n (ends_needed k h) (shared_needed k h) a s.table (pruned_at n k a h) g pruned_is in
            let b : s.branches ≡ branches_at true n k a h =
            o.branches ∙ (λ i. branch none (left_marks (em i) (ends_needed (ek i) (eh i)) (e i)) ∷ []) in
            (e ∙ ap (λ x. table_at x n k a h) (sym t), b ∙ ap (λ x. branches_at x n k a h) (sym t)))
        | inr l ↦ (let o = done l in
            let t : ltb h found.top ≡ false = le-ltb h found.top (omega (arith, u.1)) in
            (o.table ∙ es ∙ ap (λ x. table_at x n k a h) (sym t), o.branches ∙ ap (λ x. branches_at x n k a h) (sym t)))
      ] in
      state_same s (make n k a rule) em ek es rest.0 er u.1 u.0 rest.1 et

  opened : (x : Bool) → ltb h found.top ≡ x → h < found.top → (table_at x n k a h ≡ pruned_at n k a h) × (branches_at x n k a h ≡ branches_at true n k a h)
  opened true e l = (refl, refl)
  opened false e l = absurd (omega (arith, ltb-false h found.top e))

  closed : (x : Bool) → ltb h found.top ≡ x → found.top ≤ h → (table_at x n k a h ≡ a) × (branches_at x n k a h ≡ [])
  closed true e l = absurd (omega (arith, ltb-true h found.top e))
  closed false e l = (refl, refl)

  pub make_opens : held_size (make n k a rule) < (make n k a rule).top → Opens (make n k a rule)
  make_opens l =
      let w = opened (ltb h found.top) refl l in record {
        table = subst (Largest n (ends_needed k h) (shared_needed k h) a) (sym w.0) pruned_is;
        branches = w.1 ∙ (λ i. branch none (left_marks n (ends_needed k h) (sym w.0 i)) ∷ []);
      }

  pub make_done : (make n k a rule).top ≤ held_size (make n k a rule) → Done (make n k a rule)
  make_done l = let w = closed (ltb h found.top) refl l in record { table = w.0; branches = w.1 }

-- what was computed is what making leaves
pub make_is : (m : Meaning) (k : ℕ) (rule : Number) → Made m k rule (make m.marks k m.agrees rule)
make_is m k rule = record {
  marks = refl;
  k_is = refl;
  sheet = refl;
  rule_is = refl;
  first = found_is m.marks k m.agrees rule (among m) (two_way m);
  opens = make_opens m.marks k m.agrees rule (among m) (two_way m);
  done = make_done m.marks k m.agrees rule (among m) (two_way m);
  taken = refl;
}

-- and making leaves nothing else
pub make_only : (m : Meaning) (k : ℕ) (rule : Number) (s : State) → Made m k rule s → s ≡ make m.marks k m.agrees rule
make_only m k rule s w =
    unmade m.marks k m.agrees rule (among m) (two_way m) s
    w.marks w.k_is w.sheet w.rule_is w.first w.opens w.done w.taken

pub making_is_exact_lem : MakingIsExact
making_is_exact_lem = record {
  exists = λ m k rule. (make m.marks k m.agrees rule, make_is m k rule);
  only = λ m k rule s t p q. make_only m k rule s p ∙ sym (make_only m k rule t q);
  sound = made_sound;
}
