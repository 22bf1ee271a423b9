-- Rising lists of marks, and what an offer answers.
use Rattle.std.proofs.Common.{◌≡◌, ℕ, zero, suc, ◌+◌, ◌<◌, ◌≤◌, Bool, true, false, ◌&&◌, eqb, ltb, leb, ◌⊎◌, List, [], ◌∷◌, length, get_or, Ok, Err, Result, sym, refl, ap, ◌∙◌, inl, inr, arith}
use Rattle.std.proofs.lemmas.Bool.Decides.{nat_tests}
use Rattle.std.proofs.lemmas.Bool.{cases_Bool, leb-true, leb-false, ltb-true, ltb-false, le-leb, lt-leb, lt-ltb, le-ltb, and_parts, and_from, or_cases, eqb-true, true≢false, false≢true}
use Rattle.plex.specs.Sets.{card, only, ◌∩◌, Within, is_kplex, among}
use Rattle.plex.proofs.Count.{card_or, card_only, card_none}
use Rattle.plex.proofs.Decide.{kplex_decides}
use Rattle.searching.specs.declared.refusal.SearchRefusal.{SearchRefusal}
use Rattle.searching.specs.declared.refusal.SearchRefusal.TheVariants.{
  BudgetOutOfRange,
  ListTooLong,
  NotRisingMarks,
  NotPlex,
  NotLarger,
  NotSettled,
  TooFewPlaces,
}
use Rattle.searching.specs.States.{State, held_size}
use Rattle.searching.specs.Calls.{Offer, RisingMarks, OffersPlex, Does}
use Rattle.searching.specs.Computed.{is_rising, offered, after_offer, offer}

abbrev From : ℕ → List ℕ → Type 0
From low list = 0 < length list → low ≤ get_or list 0 0

one_more : (n low x : ℕ) (xs : List ℕ) → low ≤ x → x < n → RisingMarks n xs × From (suc x) xs → RisingMarks n (x ∷ xs) × From low (x ∷ xs)
one_more n low x xs l m r = (record { marks = marks; rises = rises }, λ _. l)
  where
    marks : (p : ℕ) → p < length (x ∷ xs) → get_or (x ∷ xs) p 0 < n
    marks zero h = m
    marks (suc p) h = r.0.marks p (omega arith)

    rises : (p : ℕ) → p + 1 < length (x ∷ xs) → get_or (x ∷ xs) p 0 < get_or (x ∷ xs) (p + 1) 0
    rises zero h = r.1 (omega arith)
    rises (suc p) h =
        let j : suc p + 1 ≡ suc (p + 1) = omega arith in
        omega (arith, r.0.rises p (omega arith), ap (λ i. get_or (x ∷ xs) i 0) j)

rising_from : (n low : ℕ) (list : List ℕ) → is_rising n low list ≡ true → RisingMarks n list × From low list
rising_from n low [] e = (record { marks = λ p h. absurd (omega arith); rises = λ p h. absurd (omega arith) }, λ h. absurd (omega arith))
rising_from n low (x ∷ xs) e =
    let u = and_parts (leb low x && ltb x n) _ e in
    let v = and_parts (leb low x) _ u.0 in
    one_more n low x xs (leb-true low x v.0) (ltb-true x n v.1) (rising_from n (suc x) xs u.1)

rising_to : (n low : ℕ) (list : List ℕ) → RisingMarks n list → From low list → is_rising n low list ≡ true
rising_to n low [] r l = refl
rising_to n low (x ∷ xs) r l =
    and_from (leb low x && ltb x n) _
    (and_from (leb low x) _ (le-leb low x (l (omega arith))) (lt-ltb x n (r.marks 0 (omega arith))))
    (rising_to n (suc x) xs (record { marks = λ p h. r.marks (suc p) (omega arith); rises = rises }) (λ h. r.rises 0 (omega arith)))
  where
    rises : (p : ℕ) → p + 1 < length xs → get_or xs p 0 < get_or xs (p + 1) 0
    rises p h =
        let j : suc p + 1 ≡ suc (p + 1) = omega arith in
        omega (arith, r.rises (suc p) (omega arith), ap (λ i. get_or (x ∷ xs) i 0) j)

-- the marks of a rising list are below n, and as many as its length
among_from : (n low : ℕ) (list : List ℕ) → is_rising n low list ≡ true → (i : ℕ) → among list i ≡ true → (low ≤ i) × (i < n)
among_from n low [] e i t = absurd (false≢true t)
among_from n low (x ∷ xs) e i t =
    let u = and_parts (leb low x && ltb x n) _ e in
    let v = and_parts (leb low x) _ u.0 in
    elim (or_cases (eqb i x) _ t) [
      | inl f ↦ (let g = eqb-true i x f in (omega (arith, leb-true low x v.0), omega (arith, ltb-true x n v.1)))
      | inr f ↦ (let r = among_from n (suc x) xs u.1 i f in (omega (arith, r.0, leb-true low x v.0), r.1))
    ]

pub card_from : (n low : ℕ) (list : List ℕ) → is_rising n low list ≡ true → card n (among list) ≡ length list
card_from n low [] e = card_none n (among []) (λ i _. refl)
card_from n low (x ∷ xs) e =
    let u = and_parts (leb low x && ltb x n) _ e in
    let v = and_parts (leb low x) _ u.0 in
    omega (
      arith,
      card_from n (suc x) xs u.1,
      card_or n (only x) (among xs),
      card_only n x (ltb-true x n v.1),
      card_none n (only x ∩ among xs) (λ i _. apart i (cases_Bool (among xs i))),
    )
  where
    apart : (i : ℕ) → (among xs i ≡ true) ⊎ (among xs i ≡ false) → (only x ∩ among xs) i ≡ false
    apart i (inl t) =
        let r = among_from n (suc x) xs (and_parts (leb low x && ltb x n) _ e).1 i t in grind (arith, nat_tests)
    apart i (inr f) = grind arith

pub rising_test : (n : ℕ) (list : List ℕ) → is_rising n 0 list ≡ true → RisingMarks n list
rising_test n list e = (rising_from n 0 list e).0

pub test_rising : (n : ℕ) (list : List ℕ) → RisingMarks n list → is_rising n 0 list ≡ true
test_rising n list r = rising_to n 0 list r (λ _. omega arith)

-- a well-formed list has as many marks as its length
pub rising_size : (n : ℕ) (list : List ℕ) → RisingMarks n list → card n (among list) ≡ length list
rising_size n list r = card_from n 0 list (test_rising n list r)

pub rising_in : (n : ℕ) (list : List ℕ) → RisingMarks n list → Within n (among list)
rising_in n list r i t = (among_from n 0 list (test_rising n list r) i t).1

module _ (s : State) (list : List ℕ) where
  plex_test : RisingMarks s.marks list → is_kplex s.marks s.k s.sheet (among list) ≡ true → OffersPlex s list
  plex_test r = (kplex_decides s.marks s.k s.sheet (among list) (rising_in s.marks list r)).0

  test_plex : RisingMarks s.marks list → OffersPlex s list → is_kplex s.marks s.k s.sheet (among list) ≡ true
  test_plex r = (kplex_decides s.marks s.k s.sheet (among list) (rising_in s.marks list r)).1

  not_true : (b : Bool) (P : Type 0) → (P → b ≡ true) → b ≡ false → P → ⊥
  not_true b P f e p = true≢false (sym (f p) ∙ e)

  not_so : (b : Bool) (P : Type 0) → (b ≡ true → P) → (P → ⊥) → b ≡ false
  not_so b P f h = elim (cases_Bool b) [ inl t ↦ absurd (h (f t)) | inr e ↦ e ]

  by_tests : (a b c d : Bool) → leb (length list) s.marks ≡ a → is_rising s.marks 0 list ≡ b →
      is_kplex s.marks s.k s.sheet (among list) ≡ c → ltb (held_size s) (card s.marks (among list)) ≡ d →
      Does s (Offer list) (offered a b c d) (after_offer s list (offered a b c d))
  by_tests false b c d ea eb ec ed = (leb-false (length list) s.marks ea, refl)
  by_tests true false c d ea eb ec ed =
      ((leb-true (length list) s.marks ea, not_true _ (RisingMarks s.marks list) (test_rising s.marks list) eb), refl)
  by_tests true true false d ea eb ec ed =
      let r = rising_test s.marks list eb in
      ((leb-true (length list) s.marks ea, r, not_true _ (OffersPlex s list) (test_plex r) ec), refl)
  by_tests true true true false ea eb ec ed =
      let r = rising_test s.marks list eb in
      ((leb-true (length list) s.marks ea, r, plex_test r ec, ltb-false (held_size s) (card s.marks (among list)) ed), refl)
  by_tests true true true true ea eb ec ed =
      let r = rising_test s.marks list eb in (
        record {
          short = leb-true (length list) s.marks ea;
          rising_marks = r;
          plex = plex_test r ec;
          larger = ltb-true (held_size s) (card s.marks (among list)) ed;
        },
        refl,
        refl,
      )

  pub offer_is : Does s (Offer list) (offer s list) (after_offer s list (offer s list))
  offer_is = by_tests _ _ _ _ refl refl refl refl

  -- what the four tests say is what the offer answers
  as_told : (a b c d : Bool) → leb (length list) s.marks ≡ a → is_rising s.marks 0 list ≡ b →
      is_kplex s.marks s.k s.sheet (among list) ≡ c → ltb (held_size s) (card s.marks (among list)) ≡ d → offered a b c d ≡ offer s list
  as_told a b c d ea eb ec ed = sym (λ i. offered (ea i) (eb i) (ec i) (ed i))

  refused : (r : Result ℕ SearchRefusal) (t : State) → after_offer s list r ≡ s → r ≡ offer s list → t ≡ s →
      (r ≡ offer s list) × (t ≡ after_offer s list (offer s list))
  refused r t f e g = (e, g ∙ sym f ∙ ap (after_offer s list) e)

  pub offer_only : (r : Result ℕ SearchRefusal) (t : State) → Does s (Offer list) r t → (r ≡ offer s list) × (t ≡ after_offer s list (offer s list))
  offer_only (Ok v) t d =
      let w = d.0 in
      let e = as_told true true true true (le-leb _ _ w.short) (test_rising s.marks list w.rising_marks)
      (test_plex w.rising_marks w.plex) (lt-ltb _ _ w.larger) in
      (ap Ok d.1 ∙ e, d.2 ∙ ap (after_offer s list) e)
  offer_only (Err BudgetOutOfRange) t d = absurd d.0
  offer_only (Err ListTooLong) t d =
      refused (Err ListTooLong) t refl (as_told false _ _ _ (lt-leb _ _ d.0) refl refl refl) d.1
  offer_only (Err NotRisingMarks) t d =
      refused (Err NotRisingMarks) t refl
      (as_told true false _ _ (le-leb _ _ d.0.0) (not_so _ (RisingMarks s.marks list) (rising_test s.marks list) d.0.1) refl refl) d.1
  offer_only (Err NotPlex) t d =
      refused (Err NotPlex) t refl
      (as_told true true false _ (le-leb _ _ d.0.0) (test_rising s.marks list d.0.1)
      (not_so _ (OffersPlex s list) (plex_test d.0.1) d.0.2) refl) d.1
  offer_only (Err NotLarger) t d =
      refused (Err NotLarger) t refl
      (as_told true true true false (le-leb _ _ d.0.0) (test_rising s.marks list d.0.1) (test_plex d.0.1 d.0.2) (le-ltb _ _ d.0.3)) d.1
  offer_only (Err NotSettled) t d = absurd d.0
  offer_only (Err TooFewPlaces) t d = absurd d.0
