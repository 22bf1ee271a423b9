-- What the rules' numbers are, in the subject's words, and that they are lawful. Assumes nothing.
use Rattle.std.specs.Prelude.{◌≡◌, ℕ, ◌<◌, ◌≤◌, true, ◌≢◌}
use Rattle.plex.specs.Sets.{Set, Agreement, card, Kplex, Within}
use Rattle.ceiling.specs.Rules.{Number, Lawful, smaller}
use Rattle.ceiling.specs.Formulas.{marks_of_both, degree_number, pair_number, by_degree, by_pair}

-- m is the smallest f u over the marks u of s
pub record Smallest (s : Set) (f : ℕ → ℕ) (m : ℕ) : Type 0 where
  pub below : (u : ℕ) → s u ≡ true → m ≤ f u
  pub reached : (u : ℕ) × (s u ≡ true) × (m ≡ f u)

-- m is the smallest f u v over two different marks u and v of s
pub record SmallestOfTwo (s : Set) (f : ℕ → ℕ → ℕ) (m : ℕ) : Type 0 where
  pub below : (u v : ℕ) → s u ≡ true → s v ≡ true → (u ≢ v) → m ≤ f u v
  pub reached : (u : ℕ) × (v : ℕ) × (s u ≡ true) × (s v ≡ true) × (u ≢ v) × (m ≡ f u v)

-- for which k and s the two rules say something else than |S| + |C|
pub record AskedWell (n k : ℕ) (agrees : Agreement) (s : Set) : Type 0 where
  pub low : 1 ≤ k
  pub high : k ≤ 16
  pub plex : Kplex n k agrees s

-- what the number m of the degree rule is
pub record IsDegreeNumber (n k : ℕ) (agrees : Agreement) (s c : Set) (m : ℕ) : Type 0 where
  pub smallest : AskedWell n k agrees s → 0 < card n s → Smallest s (degree_number n k agrees s c) m
  pub empty : card n s ≡ 0 → m ≡ marks_of_both n s c
  pub otherwise : (AskedWell n k agrees s → ⊥) → m ≡ marks_of_both n s c

-- what the number m of the pair rule is
pub record IsPairNumber (n k : ℕ) (agrees : Agreement) (s c : Set) (m : ℕ) : Type 0 where
  pub smallest : AskedWell n k agrees s → 1 < card n s → SmallestOfTwo s (pair_number n k agrees s c) m
  pub fewer : card n s ≤ 1 → m ≡ marks_of_both n s c
  pub otherwise : (AskedWell n k agrees s → ⊥) → m ≡ marks_of_both n s c

-- the formulas are the rules, for all sets of marks below n, and no other numbers are
pub record FormulasStand : Type 0 where
  pub degree : (n k : ℕ) (agrees : Agreement) (s c : Set) → Within n s → IsDegreeNumber n k agrees s c (by_degree n k agrees s c)
  pub one_degree : (n k : ℕ) (agrees : Agreement) (s c : Set) (m : ℕ) → Within n s → IsDegreeNumber n k agrees s c m → m ≡ by_degree n k agrees s c
  pub pair : (n k : ℕ) (agrees : Agreement) (s c : Set) → Within n s → IsPairNumber n k agrees s c (by_pair n k agrees s c)
  pub one_pair : (n k : ℕ) (agrees : Agreement) (s c : Set) (m : ℕ) → Within n s → IsPairNumber n k agrees s c m → m ≡ by_pair n k agrees s c

-- both rules are lawful, and the smaller of any two lawful rules is
pub record RulesAreLawful : Type 0 where
  pub degree : Lawful (by_degree 128)
  pub pair : Lawful (by_pair 128)
  pub smaller_of_two : (first second : Number) → Lawful first → Lawful second → Lawful (smaller first second)
