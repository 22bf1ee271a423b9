-- Code counts over 128 marks, the definitions over those of the sheet: for sets within the sheet it is the same.
use Rattle.std.proofs.Common.{◌≡◌, ℕ, ◌+◌, ◌<◌, ◌≤◌, ◌&&◌, eqb, sym, ap, ◌∙◌, subst, inl, inr, arith}
use mathlib.Core.Path.{fun_ext}
use Rattle.std.proofs.lemmas.Bool.Decides.{nat_tests}
use Rattle.std.proofs.lemmas.Bool.{and_parts, or_cases}
use Rattle.plex.specs.Sets.{Set, Agreement, card, only, ◌∩◌, ◌∪◌, ◌∖◌, Kplex, Within}
use Rattle.plex.proofs.Count.{card_beyond}
use Rattle.searching.specs.First.{agreements_inside}
use Rattle.searching.specs.Trimming.{Fits, Trimmed}
use Rattle.searching.specs.Steps.{Most, tight, SplitMark}
use Rattle.searching.proofs.Branches.{plex_beyond}

within_both : (n : ℕ) (s c : Set) → Within n s → Within n c → Within n (s ∪ c)
within_both n s c p q i t = elim (or_cases (s i) (c i) t) [ inl e ↦ p i e | inr e ↦ q i e ]

within_part : (n : ℕ) (s t : Set) → Within n s → Within n (s ∩ t)
within_part n s t p i e = p i (and_parts (s i) _ e).0

within_rest : (n : ℕ) (s t : Set) → Within n s → Within n (s ∖ t)
within_rest n s t p i e = p i (and_parts (s i) _ e).0

within_only : (n v : ℕ) → v < n → Within n (only v)
within_only n v l i e = grind (arith, nat_tests)

module _ (n : ℕ) (few : n ≤ 128) where
  pub count_same : (s : Set) → Within n s → card 128 s ≡ card n s
  count_same s w = card_beyond n 128 s w few

  pub plex_within : (k : ℕ) (a : Agreement) (s : Set) → Within n s → Kplex 128 k a s → Kplex n k a s
  plex_within k a s w q i t =
      (w i t, omega (arith, (q i t).1, count_same s w, count_same (s ∩ a i) (within_part n s (a i) w)))

  module _ (k : ℕ) (a : Agreement) (h : ℕ) (s c : Set) (ws : Within n s) (wc : Within n c) where
    fits_within : (d : Set) → Within n d → Fits 128 k a h s d → Fits n k a h s d
    fits_within d wd f v t =
        let x = f v t in (
          plex_within k a (s ∪ only v) (within_both n s (only v) ws (within_only n v (wd v t))) x.0,
          omega (arith, x.1, count_same ((s ∪ d) ∩ a v) (within_part n (s ∪ d) (a v) (within_both n s d ws wd))),
        )

    fits_beyond : (d : Set) → Within n d → Fits n k a h s d → Fits 128 k a h s d
    fits_beyond d wd f v t =
        let x = f v t in (
          plex_beyond n k a (s ∪ only v) few x.0,
          omega (arith, x.1, count_same ((s ∪ d) ∩ a v) (within_part n (s ∪ d) (a v) (within_both n s d ws wd))),
        )

    pub trimmed_within : (d : Set) → Trimmed 128 k a h s c d → Trimmed n k a h s c d
    trimmed_within d t = record {
      fits = fits_within d (λ i e. wc i (t.part i e)) t.fits;
      part = t.part;
      most = λ e f p. t.most e (fits_beyond e (λ i x. wc i (p i x)) f) p;
    }

  module _ (k : ℕ) (a : Agreement) (s c : Set) (ws : Within n s) (wc : Within n c) where
    inside_same : agreements_inside 128 a (s ∪ c) ≡ agreements_inside n a (s ∪ c)
    inside_same = fun_ext (λ v. count_same ((s ∪ c) ∩ a v) (within_part n (s ∪ c) (a v) (within_both n s c ws wc)))

    tight_same : tight 128 k a s c ≡ tight n k a s c
    tight_same = fun_ext (λ v. ap (λ x. c v && eqb (x + 1) k) (count_same (s ∖ a v) (within_rest n s (a v) ws)))

    most_within : (p : Set) (u : ℕ) → Most 128 a s c p u → Most n a s c p u
    most_within p u m = record {
      member = m.member;
      most = λ v t. subst (λ f. f v ≤ f u) inside_same (m.most v t);
      lowest = λ v t e. m.lowest v t (subst (λ f. f v ≡ f u) (sym inside_same) e);
    }

    pub split_within : (u : ℕ) → SplitMark 128 k a s c u → SplitMark n k a s c u
    split_within u m = record {
      among_tight = λ v t.
          subst (λ p. Most n a s c p u) tight_same (most_within (tight 128 k a s c) u (m.among_tight v (ap (λ p. p v) tight_same ∙ t)));
      among_all = λ none. most_within c u (m.among_all (λ v. ap (λ p. p v) tight_same ∙ none v));
    }
