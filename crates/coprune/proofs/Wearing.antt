-- What is left of a sheet after strikes, one after another.
use Rattle.std.proofs.Common.{◌≡◌, ℕ, ◌<◌, ◌≤◌, Bool, true, false, ◌||◌, sym, refl, ap, ◌∙◌, subst, ap₂, arith}
use Rattle.std.proofs.lemmas.Bool.{and_parts, false≢true}
use Rattle.plex.specs.Sets.{Agreement}
use Rattle.plex.specs.Meaning.{Meaning, Struck}
use Rattle.pruning.specs.Pruned.{Kept, agreements_at_ends}
use Rattle.pruning.proofs.Keeping.{kept_self, kept_on, kept_struck, kept_fewer, struck_fewer}
use Rattle.coprune.specs.declared.limits.Limits.{Limits}
use Rattle.coprune.specs.Coprune.{Wears, Worn, at_ends, bad}
use Rattle.plex.proofs.Within.{among}

pub wears_self : (l : Limits) (m : Meaning) → Wears l m m
wears_self l m = record { marks = refl; kept = kept_self m.marks l.ends l.shared m.agrees }

pub wears_on : (l : Limits) (m m' m'' : Meaning) → Wears l m m' → Wears l m' m'' → Wears l m m''
wears_on l m m' m'' p q =
    let P : ℕ → Type 0 = λ n. Kept n l.ends l.shared m'.agrees m''.agrees in
    record {
      marks = q.marks ∙ p.marks;
      kept = kept_on m.marks l.ends l.shared m.agrees m'.agrees m''.agrees p.kept (subst P p.marks q.kept);
    }

pub wears_fewer : (l : Limits) (m m' : Meaning) → Wears l m m' → at_ends m' ≤ at_ends m
wears_fewer l m m' w =
    let e = ap (λ n. agreements_at_ends n m'.agrees) w.marks in
    omega (arith, kept_fewer m.marks l.ends l.shared m.agrees m'.agrees w.kept)

-- no agreement was looked at so far
pub worn_none : (l : Limits) (m : Meaning) → Worn l false m m
worn_none l m = record { wears = wears_self l m; fewer = λ e. absurd (false≢true e) }

-- and some more
pub worn_on : (l : Limits) (r s : Bool) (m m' m'' : Meaning) → Worn l r m m' → Worn l s m' m'' → Worn l (r || s) m m''
worn_on l r s m m' m'' p q = record { wears = wears_on l m m' m'' p.wears q.wears; fewer = fewer r s p.fewer q.fewer }
  where
    fewer : (r s : Bool) → (r ≡ true → at_ends m' < at_ends m) → (s ≡ true → at_ends m'' < at_ends m') → (r || s) ≡ true → at_ends m'' < at_ends m
    fewer true s f g e = omega (arith, f refl, wears_fewer l m' m'' q.wears)
    fewer false s f g e = omega (arith, g e, wears_fewer l m m' p.wears)

-- an agreement that may not stay was struck
module _ (l : Limits) (m m' : Meaning) (i j : ℕ) (s : Struck m i j m') (e : bad l m i j ≡ true) where
  wears_struck : Wears l m m'
  wears_struck =
      let P : Agreement → Type 0 = λ g. Kept m.marks l.ends l.shared m.agrees g in
      record {
        marks = s.marks;
        kept = subst P (sym s.agrees) (kept_struck m.marks l.ends l.shared m.agrees i j (and_parts (m.agrees i j) _ e).1);
      }

  pub worn_struck : Worn l true m m'
  worn_struck =
      let there = (and_parts (m.agrees i j) _ e).0 in
      let f = ap₂ agreements_at_ends s.marks s.agrees in
      record { wears = wears_struck; fewer = λ _. omega (arith, struck_fewer m.marks m.agrees i j (among m) there) }
