-- A pass over candidates, of which those with too few agreements leave at once, and passes until nothing leaves.
use Rattle.std.proofs.Common.{◌≡◌, ℕ, ◌<◌, ◌≤◌, true, sym, ap, ◌∙◌, inl, inr, arith}
use Rattle.std.proofs.lemmas.Bool.Decides.{nat_tests}
use Rattle.std.proofs.lemmas.Bool.{cases_eq, and_parts}
use Rattle.plex.specs.Sets.{Set, Agreement, card, none, only, ◌∩◌, ◌∪◌, ◌∖◌, ◌⊆◌}
use Rattle.plex.proofs.Count.{card_mono, card_less}
use Rattle.rule.proofs.Passing.{Passed, all_left, left_part, passed_nothing, passed_more, passed_all}
use Rattle.branch.specs.Agreeing.{Agreeing, LargestAgreeing, Swept}

pub record Sweeping (few : ℕ) (a : Agreement) (s c rest kept : Set) : Type 0 where
  pub part : kept ⊆ c
  -- what was not looked at is still there
  pub left : rest ⊆ kept
  pub most : (e : Set) → Agreeing few a s e → e ⊆ c → e ⊆ kept
  pub still : card 128 kept ≡ card 128 c → Passed (λ v. few < card 128 ((s ∪ kept) ∩ a v)) c rest

module _ (few : ℕ) (a : Agreement) (s c : Set) where
  pub sweeping_none : (rest : Set) → rest ≡ c → Sweeping few a s c rest c
  sweeping_none rest q = record {
    part = λ i t. t;
    left = all_left c rest q;
    most = λ e _ p. p;
    still = λ _. passed_nothing (λ v. few < card 128 ((s ∪ c) ∩ a v)) c rest q;
  }

  pub sweeping_all : (rest kept : Set) → rest ≡ none → Sweeping few a s c rest kept → Swept few a s c kept
  sweeping_all rest kept e h = record {
    part = h.part;
    most = h.most;
    still = λ q v t. passed_all (λ v. few < card 128 ((s ∪ kept) ∩ a v)) c rest e (h.still q) v (h.part v t);
  }

  module _ (rest rest' kept : Set) (v : ℕ) (e : rest' ≡ rest ∖ only v) (h : Sweeping few a s c rest kept) where
    pub sweeping_keeps : few < card 128 ((s ∪ kept) ∩ a v) → Sweeping few a s c rest' kept
    sweeping_keeps l = record {
      part = h.part;
      left = left_part kept rest rest' v e h.left;
      most = h.most;
      still = λ q. passed_more (λ v. few < card 128 ((s ∪ kept) ∩ a v)) c rest rest' v e l (h.still q);
    }

    pub sweeping_drops : (kept' : Set) → v < 128 → rest v ≡ true → card 128 ((s ∪ kept) ∩ a v) ≤ few → kept' ≡ kept ∖ only v → Sweeping few a s c rest' kept'
    sweeping_drops kept' b r l f = record {
      part = λ i t. h.part i (and_parts (kept i) _ (sym (ap (λ k. k i) f) ∙ t)).0;
      left = λ i t. let x = sym (ap (λ k. k i) e) ∙ t in let y = h.left i in ap (λ k. k i) f ∙ grind arith;
      most = λ d g p i t. elim (cases_eq i v) [
        | inl m ↦
            (let x = ap d (sym m) ∙ t in
            let y = card_mono 128 ((s ∪ d) ∩ a v) ((s ∪ kept) ∩ a v) (λ j. let z = h.most d g p j in grind arith) in
            absurd (omega (arith, g v x)))
        | inr m ↦ (let z = h.most d g p i t in ap (λ k. k i) f ∙ grind (arith, nat_tests))
      ];
      still = λ q. absurd (omega (arith, ap (card 128) f, card_less 128 kept v b (h.left v r), card_mono 128 kept c h.part));
    }

-- passes so far: no part that does well was lost
pub record Rounds (few : ℕ) (a : Agreement) (s c kept : Set) : Type 0 where
  pub part : kept ⊆ c
  pub most : (e : Set) → Agreeing few a s e → e ⊆ c → e ⊆ kept

module _ (few : ℕ) (a : Agreement) (s c : Set) where
  pub rounds_none : Rounds few a s c c
  rounds_none = record { part = λ i t. t; most = λ e _ p. p }

  pub rounds_more : (kept kept' : Set) → Rounds few a s c kept → Swept few a s kept kept' → Rounds few a s c kept'
  rounds_more kept kept' h w = record {
    part = λ i t. h.part i (w.part i t);
    most = λ e g p. w.most e g (h.most e g p);
  }

  pub rounds_all : (kept kept' : Set) → card 128 kept' ≡ card 128 kept → Rounds few a s c kept → Swept few a s kept kept' → LargestAgreeing few a s c kept'
  rounds_all kept kept' q h w = let r = rounds_more kept kept' h w in record { agreeing = w.still q; part = r.part; most = r.most }
