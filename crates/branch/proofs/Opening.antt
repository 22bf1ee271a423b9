-- What holds of an opened branch holds of what it was opened from.
use Rattle.std.proofs.Common.{◌≡◌, ℕ, subst}
use Rattle.plex.specs.Sets.{Set, Agreement}
use Rattle.marks.specs.Members.{members}
use Rattle.tables.specs.declared.bits.BitTable.{BitTable}
use Rattle.tables.specs.Meanings.{bit_meaning}
use Rattle.branch.specs.declared.opened.Opened.{Opened}
use Rattle.branch.specs.Opened.{agreed}

pub as_opened : (P : ℕ → Agreement → Set → Set → Type 0) (q : Opened) (k : ℕ) (t : BitTable) (s c : Set) →
    q.k ≡ k → q.table.now ≡ t → members q.chosen ≡ s → members q.candidates ≡ c →
    P q.k (agreed q) (members q.chosen) (members q.candidates) → P k (bit_meaning t).agrees s c
as_opened P q k t s c a b d e h =
    subst (P k (bit_meaning t).agrees s) e
    (subst (λ x. P k (bit_meaning t).agrees x (members q.candidates)) d
    (subst (λ x. P k (bit_meaning x).agrees (members q.chosen) (members q.candidates)) b
    (subst (λ x. P x (agreed q) (members q.chosen) (members q.candidates)) a h)))
