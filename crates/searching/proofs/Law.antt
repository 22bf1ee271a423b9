-- The law, from the making on.
use Rattle.std.proofs.Common.{ℕ, ◌+◌, ◌-◌, ◌^◌, ◌≤◌, Bool, sym, subst, arith}
use Rattle.plex.specs.Sets.{Set, Agreement}
use Rattle.ceiling.specs.Rules.{Lawful}
use Rattle.searching.specs.States.{State, ceiling, steps_left, settled}
use Rattle.searching.specs.Calls.{Call, Answer, Does}
use Rattle.searching.specs.Runs.{Reached, at_once, and_then}
use Rattle.searching.specs.Law.{Keeps, Law, TheLaw}
use Rattle.searching.proofs.Runs.{law_from_sound}
use Rattle.searching.proofs.Making.{made_sound, made_left}

-- fewer steps are enough, so more are
more_enough : {St : Type 0} (does : St → (c : Call) → Answer c → St → Type 0) (held : St → Set) (ceiling_of : St → ℕ) (is_settled : St → Bool)
    (n k : ℕ) (agrees : Agreement) (enough enough' : ℕ) (paid : ℕ) (t : St) → enough ≤ enough' →
    Keeps does held ceiling_of is_settled n k agrees enough paid t → Keeps does held ceiling_of is_settled n k agrees enough' paid t
more_enough does held ceiling_of is_settled n k agrees enough enough' paid t l p = record {
  plex = p.plex;
  under = p.under;
  later = p.later;
  meets = p.meets;
  largest = p.largest;
  ends = λ m. p.ends (omega arith);
  reports = p.reports;
  tallies = p.tallies;
  copies = p.copies;
}

pub the_law : TheLaw
the_law m k rule low high law s w paid t r =
    let x = law_from_sound s (made_sound m k rule s w) (subst Lawful (sym w.rule_is) law) paid t r in
    let y = more_enough Does (λ x. x.held) ceiling settled s.marks s.k s.sheet (steps_left s) (2 ^ (s.marks + 1) - 1) paid t (made_left m k rule s w) x in
    let K : ℕ → ℕ → Agreement → Type 0 = λ n j f. Keeps Does (λ x. x.held) ceiling settled n j f (2 ^ (n + 1) - 1) paid t in
    let a : K m.marks s.k s.sheet = subst (λ n. K n s.k s.sheet) w.marks y in
    let b : K m.marks k s.sheet = subst (λ j. K m.marks j s.sheet) w.k_is a in
    subst (λ f. K m.marks k f) w.sheet b

-- For code above this theory, whose values mean states: a run over such values is a run over what they mean,
pub meant : {St : Type 0} (view : St → State) {s : St} {paid : ℕ} {t : St} → Reached (λ x c a y. Does (view x) c a (view y)) s paid t →
    Reached Does (view s) paid (view t)
meant view at_once = at_once
meant view (and_then c a r d) = and_then c a (meant view r) d

-- and so the law on states is the law on the values.
pub law_meant : {St : Type 0} (view : St → State) (n k : ℕ) (agrees : Agreement) (enough : ℕ) (s : St) →
    Law Does (λ t. t.held) ceiling settled n k agrees enough (view s) →
    Law (λ x c a y. Does (view x) c a (view y)) (λ x. (view x).held) (λ x. ceiling (view x)) (λ x. settled (view x)) n k agrees enough s
law_meant view n k agrees enough s law paid t r =
    let p = law paid (view t) (meant view r) in record {
      plex = p.plex;
      under = p.under;
      later = λ more u q. p.later more (view u) (meant view q);
      meets = p.meets;
      largest = p.largest;
      ends = p.ends;
      reports = λ a u d. p.reports a (view u) d;
      tallies = λ a u d. p.tallies a (view u) d;
      copies = λ places places' count u d. p.copies places places' count (view u) d;
    }
