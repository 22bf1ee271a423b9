-- One sifting after another.
use Rattle.std.proofs.Common.{◌≡◌, ℕ, true}
use Rattle.plex.specs.Sets.{Set}
use Rattle.branch.specs.Sifting.{Sifted}

-- two siftings, one after the other
pub sifted_both : (P Q R : ℕ → Type 0) (c d e : Set) → Sifted P c d → Sifted Q d e →
    ((v : ℕ) → c v ≡ true → P v → Q v → R v) → ((v : ℕ) → c v ≡ true → R v → P v × Q v) → Sifted R c e
sifted_both P Q R c d e p q to from = record {
  part = λ v t. p.part v (q.part v t);
  passes = λ v t. to v (p.part v (q.part v t)) (p.passes v (q.part v t)) (q.passes v t);
  all = λ v t r. let x = from v t r in q.all v (p.all v t x.0) x.1;
}
