-- Trimming loses no k-plex that is large enough, there is one outcome, and rounds enough find it.
use Rattle.std.proofs.Common.{◌≡◌, ℕ, zero, suc, ◌+◌, ◌<◌, ◌≤◌, true, sym, ap, ◌∙◌, inl, inr, arith}
use mathlib.Core.Path.{fun_ext}
use Rattle.std.proofs.lemmas.Bool.Decides.{nat_tests}
use Rattle.std.proofs.lemmas.Bool.{cases_lt, cases_Bool, cases_eq, ltb-true, lt-ltb, and_parts, and_from}
use Rattle.plex.specs.Sets.{Set, Agreement, card, ◌∩◌, ◌∪◌, ◌∖◌, only, ◌⊆◌, Kplex, Within, is_kplex}
use Rattle.plex.proofs.Count.{card_mono, card_strict, card_less, heredity}
use Rattle.plex.proofs.Decide.{kplex_decides}
use Rattle.ceiling.specs.Rules.{Between}
use Rattle.searching.specs.Trimming.{Fits, Trimmed}
use Rattle.searching.specs.Computed.{trim_round, trim}

fits_of_plex : (n k : ℕ) (a : Agreement) (h : ℕ) (s p : Set) → s ⊆ p → Kplex n k a p → h < card n p → Fits n k a h s (p ∖ s)
fits_of_plex n k a h s p b q l v t =
    let inp : p v ≡ true = grind arith in (
      heredity n k a (s ∪ only v) p (λ i u. let z = b i in grind (arith, nat_tests)) q,
      omega (arith, (q v inp).1, card_mono n (p ∩ a v) ((s ∪ (p ∖ s)) ∩ a v) (λ i. grind arith)),
    )

pub trim_keeps : (n k : ℕ) (a : Agreement) (h : ℕ) (s c d : Set) → Trimmed n k a h s c d → (p : Set) → Kplex n k a p → h < card n p → Between s c p → Between s d p
trim_keeps n k a h s c d t p q l b =
    let e = t.most (p ∖ s) (fits_of_plex n k a h s p b.0 q l) (λ i u. let z = b.1 i in grind arith) in
    (b.0, λ i u. let z = e i in grind arith)

pub trim_unique : (n k : ℕ) (a : Agreement) (h : ℕ) (s c d e : Set) → Trimmed n k a h s c d → Trimmed n k a h s c e → d ≡ e
trim_unique n k a h s c d e p q =
    fun_ext (λ i. let u = p.most e q.fits q.part i in let v = q.most d p.fits p.part i in grind arith)

-- a candidate that does not fit in c fits in no part of c
pub unfit_leaves : (n k : ℕ) (a : Agreement) (h : ℕ) (s c e : Set) (v : ℕ) → Fits n k a h s e → e ⊆ c →
    (Kplex n k a (s ∪ only v) → h < k + card n ((s ∪ c) ∩ a v) → ⊥) → e ⊆ (c ∖ only v)
unfit_leaves n k a h s c e v f b out i t =
    elim (cases_eq i v) [
      | inl m ↦ (let x = ap e (sym m) ∙ t in
          let y = card_mono n ((s ∪ e) ∩ a v) ((s ∪ c) ∩ a v) (λ j. let z = b j in grind arith) in
          absurd (out (f v x).0 (omega (arith, (f v x).1))))
      | inr m ↦ (let z = b i t in grind (arith, nat_tests))
    ]

module _ (n k : ℕ) (a : Agreement) (h : ℕ) (s : Set) (w : Within n s) where
  abbrev round : Set → Set
  round c = trim_round n k a h s c

  with_one : (v : ℕ) → v < n → Within n (s ∪ only v)
  with_one v l i t = let z = w i in grind (arith, nat_tests)

  round_part : (c : Set) → Within n c → round c ⊆ c
  round_part c b v t = (and_parts (c v) _ t).0

  round_keeps : (c e : Set) → Within n c → Fits n k a h s e → e ⊆ c → e ⊆ round c
  round_keeps c e b f u v t =
      and_from (c v) _ (u v t)
      (and_from (is_kplex n k a (s ∪ only v)) _ ((kplex_decides n k a (s ∪ only v) (with_one v (b v (u v t)))).1 (f v t).0)
      (lt-ltb h (k + card n ((s ∪ c) ∩ a v)) (omega (arith, (f v t).1, card_mono n ((s ∪ e) ∩ a v) ((s ∪ c) ∩ a v) (λ i. let z = u i in grind arith)))))

  -- a round that drops nothing found all fit
  round_fits : (c : Set) → Within n c → c ⊆ round c → Fits n k a h s (round c)
  round_fits c b u v t =
      let x = and_parts (c v) _ t in
      let y = and_parts (is_kplex n k a (s ∪ only v)) _ x.1 in (
        (kplex_decides n k a (s ∪ only v) (with_one v (b v x.0))).0 y.0,
        omega (arith, ltb-true h (k + card n ((s ∪ c) ∩ a v)) y.1, card_mono n ((s ∪ c) ∩ a v) ((s ∪ round c) ∩ a v) (λ i. let z = u i in grind arith)),
      )

  trim_part : (m : ℕ) (c : Set) → Within n c → trim m n k a h s c ⊆ c
  unfolding trim
  trim_part zero c b v t = t
  trim_part (suc m) c b v t = round_part c b v (trim_part m (round c) (λ i u. b i (round_part c b i u)) v t)

  trim_most : (m : ℕ) (c e : Set) → Within n c → Fits n k a h s e → e ⊆ c → e ⊆ trim m n k a h s c
  unfolding trim
  trim_most zero c e b f u = u
  trim_most (suc m) c e b f u = trim_most m (round c) e (λ i t. b i (round_part c b i t)) f (round_keeps c e b f u)

  fits_stays : (m : ℕ) (c : Set) → Within n c → Fits n k a h s c → Fits n k a h s (trim m n k a h s c)
  fits_stays m c b f v t =
      let x = f v (trim_part m c b v t) in
      (x.0, omega (arith, x.1, card_mono n ((s ∪ c) ∩ a v) ((s ∪ trim m n k a h s c) ∩ a v) (λ i. let z = trim_most m c c b f (λ _ y. y) i in grind arith)))

  trim_fits : (m : ℕ) (c : Set) → Within n c → card n c ≤ m → Fits n k a h s (trim m n k a h s c)
  unfolding trim
  trim_fits zero c b l = λ v t. let z : ⊥ = omega (arith, card_less n c v (b v t) t) in absurd z
  trim_fits (suc m) c b l =
      let b' : Within n (round c) = λ i t. b i (round_part c b i t) in
      elim (cases_lt (card n (round c)) (card n c)) [
        | inl y ↦ trim_fits m (round c) b' (omega arith)
        | inr y ↦ fits_stays m (round c) b' (round_fits c b (λ i t. elim (cases_Bool (round c i))
            [ inl e ↦ e | inr e ↦ let z : ⊥ = omega (arith, card_strict n (round c) c i (round_part c b) (b i t) e t) in absurd z ]))
      ]

  pub trim_is : (m : ℕ) (c : Set) → Within n c → card n c ≤ m → Trimmed n k a h s c (trim m n k a h s c)
  trim_is m c b l = record { fits = trim_fits m c b l; part = trim_part m c b; most = λ e f u. trim_most m c e b f u }
