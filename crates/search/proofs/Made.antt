-- What making puts together is the search that it is to leave.
use Rattle.std.proofs.Common.{◌≡◌, ℕ, ◌<◌, ◌≤◌, List, [], ◌∷◌, Ok, Err, Result, refl, ap, ◌∙◌, subst, arith}
use Rattle.std.specs.Result.{IsOk}
use Rattle.std.proofs.lemmas.Bool.{ltb-true}
use Rattle.plex.specs.Sets.{Set, card, none, below, Within}
use Rattle.plex.specs.Meaning.{Meaning}
use Rattle.plex.proofs.Count.{card_beyond}
use Rattle.marks.specs.declared.set.MarkSet.{MarkSet}
use Rattle.marks.specs.Members.{members}
use Rattle.tables.specs.declared.bits.BitTable.{BitTable}
use Rattle.tables.specs.Meanings.{bit_meaning}
use Rattle.pruning.specs.Pruned.{Largest, ends_needed, shared_needed, left_marks}
use Rattle.ceiling.specs.Rules.{Number}
use Rattle.searching.specs.First.{Peels}
use Rattle.searching.specs.States.{State, branch}
use Rattle.searching.specs.States as states
use Rattle.searching.specs.Making.{Made}
use Rattle.searching.proofs.First.{peels_stands}
use Rattle.coprune.specs.Answers.{pair_places, Remains, CoPrunes}
use Rattle.coprune.specs.declared.refusal.PruneRefusal.{PruneRefusal}
use Rattle.coprune.specs.declared.refusal.PruneRefusal.TheVariants.{KOutOfRange, TooFewMarkPlaces, TooFewPairPlaces, FloorTooHigh}

-- co-pruning in enough space is not refused
pub accepted : (m : Meaning) (k f mark_room pair_room : ℕ) (r : Result ℕ PruneRefusal) (m' : Meaning) (left : Set) → 1 ≤ k → k ≤ 16 →
    m.marks ≤ mark_room → pair_places m ≤ pair_room → f ≤ 128 → CoPrunes m k f mark_room pair_room r m' left → IsOk r × Remains m k f m' left
accepted m k f mark_room pair_room (Ok v) m' left low high marks pairs few p = (refl, p.remains)
accepted m k f mark_room pair_room (Err KOutOfRange) m' left low high marks pairs few p = absurd (p low high)
accepted m k f mark_room pair_room (Err TooFewMarkPlaces) m' left low high marks pairs few p = absurd (omega (arith, p.2))
accepted m k f mark_room pair_room (Err TooFewPairPlaces) m' left low high marks pairs few p = absurd (omega (arith, p.3))
accepted m k f mark_room pair_room (Err FloorTooHigh) m' left low high marks pairs few p = absurd (omega (arith, p.4))

module _ (m : Meaning) (k : ℕ) (rule : Number) (copy table : BitTable) (group : MarkSet) (top : ℕ) (branches : List states.Branch)
    (marks : copy.marks ≡ m.marks) (agrees : (bit_meaning copy).agrees ≡ m.agrees)
    (first : Peels copy.marks k (bit_meaning copy).agrees (below copy.marks) (members group) top) where
  abbrev pub start : State
  start = record {
    marks = copy.marks;
    k = k;
    sheet = (bit_meaning copy).agrees;
    table = (bit_meaning table).agrees;
    rule = rule;
    top = top;
    held = members group;
    branches = branches;
    taken = 0;
  }

  group_within : Within copy.marks (members group)
  group_within i t =
      ltb-true i copy.marks ((peels_stands copy.marks k (bit_meaning copy).agrees (below copy.marks) (members group) top
      (λ j e. ltb-true j copy.marks e) first).part i t)

  -- over 128 it counts as well
  pub group_count : card 128 (members group) ≡ card copy.marks (members group)
  group_count = card_beyond copy.marks 128 (members group) group_within copy.few

  pub made_open : card 128 (members group) < top →
      Largest copy.marks (ends_needed k (card 128 (members group))) (shared_needed k (card 128 (members group))) (bit_meaning copy).agrees (bit_meaning table).agrees →
      branches ≡ branch none (left_marks copy.marks (ends_needed k (card 128 (members group))) (bit_meaning table).agrees) ∷ [] → Made m k rule start
  made_open more largest opens = record {
    marks = marks;
    k_is = refl;
    sheet = agrees;
    rule_is = refl;
    first = first;
    opens = λ _. record {
      table = subst (λ f. Largest copy.marks (ends_needed k f) (shared_needed k f) (bit_meaning copy).agrees (bit_meaning table).agrees) group_count largest;
      branches = opens ∙ ap (λ f. branch none (left_marks copy.marks (ends_needed k f) (bit_meaning table).agrees) ∷ []) group_count;
    };
    done = λ l. absurd (omega (arith, group_count));
    taken = refl;
  }

  pub made_done : top ≤ card 128 (members group) → table ≡ copy → branches ≡ [] → Made m k rule start
  made_done few same closed = record {
    marks = marks;
    k_is = refl;
    sheet = agrees;
    rule_is = refl;
    first = first;
    opens = λ l. absurd (omega (arith, group_count));
    done = λ _. record { table = ap (λ t. (bit_meaning t).agrees) same; branches = closed };
    taken = refl;
  }
