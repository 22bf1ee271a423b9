-- Rising pairs: each step, and how many there can be.
use Rattle.std.proofs.Common.{◌≡◌, ℕ, zero, suc, ◌+◌, ◌*◌, ◌^◌, ◌<◌, ◌≤◌, List, [], ◌∷◌, map, length, get_or, inl, inr, arith}
use Rattle.std.specs.List.{range_with_len, AllByRecursion}
use Rattle.fileword.specs.Files.{Pair, NamesMarks, ComesBefore, RisingPairs}

-- a list made from a function of the index rises if each step does
pub rising_counted : (f : ℕ → Pair) (a n : ℕ) → ((i : ℕ) → a ≤ i → suc i < a + n → ComesBefore (f i) (f (suc i))) →
    RisingPairs (map f (range_with_len a n))
rising_counted f a zero h = tt
rising_counted f a (suc zero) h = tt
rising_counted f a (suc (suc n)) h =
    let e : suc a ≡ a + 1 = omega arith in
    let s = h a (omega arith) (omega arith) in
    (rw e at s, rising_counted f (a + 1) (suc n) (λ i l m. h i (omega arith) (omega arith)))

pub rising_step : (ps : List Pair) (i : ℕ) (d : Pair) → RisingPairs ps → suc i < length ps →
    ComesBefore (get_or ps i d) (get_or ps (suc i) d)
rising_step [] i d r l = absurd (omega arith)
rising_step (p ∷ []) i d r l = absurd (omega arith)
rising_step (p ∷ q ∷ ps) zero d r l = r.0
rising_step (p ∷ q ∷ ps) (suc i) d r l = rising_step (q ∷ ps) i d r.1 (omega arith)

-- the pair's place in the order of all pairs below 128
place : Pair → ℕ
place p = p.a * 128 + p.b

place_rises : (p q : Pair) → p.b < 128 → ComesBefore p q → place p < place q
unfolding place
place_rises p q l (inl h) = omega arith
place_rises p q l (inr h) = omega (arith, h.0, h.1)

place_room : (n : ℕ) (p : Pair) (ps : List Pair) → n ≤ 128 → AllByRecursion (NamesMarks n) (p ∷ ps) → RisingPairs (p ∷ ps) →
    place p + suc (length ps) ≤ 2 ^ 14
unfolding place
place_room n p [] l m r = omega (arith, m.0.0, m.0.1)
place_room n p (q ∷ qs) l m r =
    omega (arith, place_rises p q (omega (arith, m.0.1)) r.0, place_room n q qs l m.1 r.1)

pub few_pairs : (n : ℕ) (ps : List Pair) → n ≤ 128 → AllByRecursion (NamesMarks n) ps → RisingPairs ps → length ps ≤ 2 ^ 14
few_pairs n [] l m r = omega arith
few_pairs n (p ∷ ps) l m r = omega (arith, place_room n p ps l m r)
