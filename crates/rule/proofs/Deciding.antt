-- From what a pass found to the number of the rule.
use Rattle.std.proofs.Common.{◌≡◌, ℕ, ◌<◌, ◌≤◌, true, false, eqb, leb, Option, ap, ◌∙◌, inl, inr, arith}
use Rattle.std.specs.Option.{unwrap_or}
use Rattle.std.proofs.lemmas.Bool.Decides.{nat_tests}
use Rattle.std.proofs.lemmas.Bool.{and_parts, and_from, le-leb, leb-true, both_ways}
use Rattle.plex.specs.Sets.{Set, Agreement, card, ◌∪◌, ◌∩◌, ◌∖◌, Kplex, Within}
use Rattle.plex.proofs.Count.{card_le, card_some}
use Rattle.marks.specs.Members.{members}
use Rattle.marks.specs.declared.set.MarkSet.{MarkSet}
use Rattle.tables.specs.declared.bits.BitTable.{BitTable}
use Rattle.tables.specs.Meanings.{bit_meaning}
use Rattle.ceiling.specs.Rules.{Number, reply}
use Rattle.ceiling.specs.Formulas.{marks_of_both, degree_number, in_range, by_degree}
use Rattle.ceiling.specs.Laws.{Smallest, AskedWell}
use Rattle.ceiling.proofs.Smallest.{smallest_unique}
use Rattle.ceiling.proofs.Formulas.{degree_is}
use Rattle.rule.specs.declared.asked.Asked.{Asked}
use Rattle.rule.specs.Questions.{agreed, Finds}
use Rattle.rule.specs.Passes.{nothing_yet, Lowered}

-- a rule that finds its number, and else takes all marks, replies as it must
pub found_replies : (number : ℕ → Number) (q : Asked) (k : ℕ) (t : BitTable) (s : MarkSet) (c : Set) (found : Option ℕ) (all m : ℕ) →
    q.k ≡ k → q.table.now ≡ t → q.chosen ≡ s → members q.others ≡ c ∖ members s →
    Finds number q found → all ≡ marks_of_both 128 (members q.chosen) (members q.others) → m ≡ unwrap_or found all →
    m ≡ reply (number 128) k (bit_meaning t).agrees (members s) c
found_replies number q k t s c found all m a b d e f g h =
    h ∙ ap (unwrap_or found) g ∙ f ∙ ap (λ x. number 128 x (agreed q) (members q.chosen) (members q.others)) a
    ∙ ap (λ x. number 128 k (bit_meaning x).agrees (members q.chosen) (members q.others)) b
    ∙ ap (λ x. number 128 k (bit_meaning t).agrees (members x) (members q.others)) d
    ∙ ap (number 128 k (bit_meaning t).agrees (members s)) e

-- k is not from 1 to 16
pub out_of_range : (k : ℕ) (a : Agreement) (s : Set) → in_range k ≡ false → AskedWell 128 k a s → ⊥
out_of_range k a s e q = both_ways (in_range k) e (and_from (leb 1 k) _ (le-leb 1 k q.low) (le-leb k 16 q.high))

pub asked_well : (k : ℕ) (a : Agreement) (s : Set) → in_range k ≡ true → Kplex 128 k a s → AskedWell 128 k a s
asked_well k a s e q =
    let x = and_parts (leb 1 k) _ e in record { low = leb-true 1 k x.0; high = leb-true k 16 x.1; plex = q }

pub small_range : (k : ℕ) → in_range k ≡ true → k ≤ 16
small_range k e = leb-true k 16 (and_parts (leb 1 k) _ e).1

pub some_marks : (m : ℕ) → false ≡ eqb m 0 → 0 < m
some_marks m e = grind (arith, nat_tests)

-- the smallest that was found over some marks is the smallest over them, if each number is below the first one
pub smallest_found : (s : Set) (f : ℕ → ℕ) (start m : ℕ) → 0 < card 128 s → ((u : ℕ) → f u < start) → Lowered s f start m → Smallest s f m
smallest_found s f start m some small h = record {
  below = h.below;
  reached =
      elim h.reached [
        | inl e ↦ (let u = card_some 128 s some in absurd (omega (arith, h.below u.0 u.2, small u.0)))
        | inr x ↦ x
      ];
}

module _ (k : ℕ) (a : Agreement) (s c : Set) (w : Within 128 s) where
  pub degree_found : in_range k ≡ true → 0 < card 128 s → (m : ℕ) → Kplex 128 k a s × Lowered s (degree_number 128 k a s c) nothing_yet m → m ≡ by_degree 128 k a s c
  degree_found e some m h =
      let q = asked_well k a s e h.0 in
      smallest_unique s (degree_number 128 k a s c) m (by_degree 128 k a s c)
      (smallest_found s (degree_number 128 k a s c) nothing_yet m some (λ u. omega (arith, q.high, card_le 128 ((s ∪ c) ∩ a u))) h.1)
      ((degree_is 128 k a s c w).smallest q some)
