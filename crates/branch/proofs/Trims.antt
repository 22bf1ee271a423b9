-- What is left when both parts of trimming are done is the largest part that fits.
use Rattle.std.proofs.Common.{ℕ, ◌-◌, ◌<◌, ◌≤◌, arith}
use Rattle.plex.specs.Sets.{Set, Agreement, only, ◌∪◌, Kplex}
use Rattle.searching.specs.Trimming.{Trimmed}
use Rattle.branch.specs.Sifting.{Sifted}
use Rattle.branch.specs.Agreeing.{LargestAgreeing}

module _ (k : ℕ) (a : Agreement) (h : ℕ) (s c d : Set) (joins : Sifted (λ v. Kplex 128 k a (s ∪ only v)) c d) where
  -- the group held is smaller than k: agreements are not asked for
  pub trimmed_by_joining : h < k → Trimmed 128 k a h s c d
  trimmed_by_joining l = record {
    fits = λ v t. (joins.passes v t, omega arith);
    part = joins.part;
    most = λ e f p v t. joins.all v (p v t) (f v t).0;
  }

  pub trimmed_by_both : (e : Set) → k ≤ h → LargestAgreeing (h - k) a s d e → Trimmed 128 k a h s c e
  trimmed_by_both e l m = record {
    fits = λ v t. (joins.passes v (m.part v t), omega (arith, m.agreeing v t));
    part = λ v t. joins.part v (m.part v t);
    most = λ f g p. m.most f (λ v t. omega (arith, (g v t).1)) (λ v t. joins.all v (p v t) (g v t).0);
  }
