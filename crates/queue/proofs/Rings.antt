-- The elements around the end of some places: one more at the back, one less at the front.
use Rattle.std.proofs.Common.{◌≡◌, ℕ, suc, ◌+◌, ◌-◌, ◌%◌, ◌<◌, ◌≤◌, List, [], ◌∷◌, ◌++◌, length, get_or, drop, set, sym, refl, ap, ◌∙◌, mod-eq_of_lt, add-one, arith, length-append, length-drop, length-set, length-take, drop-cons, drop-set-lt}
use native.Mathlib.Decide.{dec_lt}
use native.Mathlib.Nat.{mod-add-mod, add-mod_left, add-mod_right}
use lib.Seq.{drop-set-add, take-append-le}
use Rattle.std.proofs.lemmas.List.{take_more_set, set-append_right, drop_all}
use Rattle.queue.specs.Waits.{around}

-- n places past h, of k, where that is before the end
pub next_ahead : (h n k : ℕ) → h + n < k → h + n ≡ (h + n) % k
next_ahead h n k l = sym (mod-eq_of_lt l)

-- and where it is past the end
pub next_around : (h n k : ℕ) → h ≤ k → k - h ≤ n → n < k → n - (k - h) ≡ (h + n) % k
next_around h n k a b l =
    let i = n - (k - h) in
    let e : h + n ≡ i + k = omega arith in
    let m : i < k = omega arith in
    sym (ap (λ (j : ℕ). j % k) e ∙ add-mod_right i k ∙ mod-eq_of_lt m)

-- one more at the back: the place after it
pub next_more : (h n k : ℕ) → (h + (n + 1)) % k ≡ ((h + n) % k + 1) % k
next_more h n k =
    let e : h + (n + 1) ≡ h + n + 1 = omega arith in
    ap (λ (j : ℕ). j % k) e ∙ sym (mod-add-mod (h + n) k 1)

-- one less at the front: the same place
pub next_less : (h n k : ℕ) → 0 < n → (h + 1 + (n - 1)) % k ≡ (h + n) % k
next_less h n k l =
    let e : h + 1 + (n - 1) ≡ h + n = omega arith in
    ap (λ (j : ℕ). j % k) e

-- n places past the end, and past the start
pub next_end : (n k : ℕ) → (0 + n) % k ≡ (k + n) % k
next_end n k =
    let e : 0 + n ≡ n = omega arith in
    ap (λ (j : ℕ). j % k) e ∙ sym (add-mod_left k n)

module _ {T : Type 0} (ps : List T) where
  -- as many as are asked for, where there are so many places
  pub around_length : (h n : ℕ) → n ≤ length ps → length (around ps h n) ≡ n
  around_length h n l = simp (length-take, length-append) (omega arith)

  -- one more, in the place behind the others, before the end
  push_ahead : (h n : ℕ) (x : T) → h + n < length ps → around (set ps (h + n) x) h (n + 1) ≡ around ps h n ++ x ∷ []
  push_ahead h n x l =
      let d : n < length (drop h ps) = simp length-drop (omega arith) in
      let d' : n + 1 ≤ length (set (drop h ps) n x) = simp (length-set, length-drop) (omega arith) in
      let e : n ≤ length (drop h ps) = omega arith in
      rw (drop-set-add h ps n x, take-append-le (n + 1) (set (drop h ps) n x) (set ps (h + n) x) d', take-append-le n (drop h ps) ps e)
      (take_more_set (drop h ps) n x d)

  -- one more, past the end
  push_around : (h n : ℕ) (x : T) → h ≤ length ps → length ps - h ≤ n → n < length ps →
      around (set ps (n - (length ps - h)) x) h (n + 1) ≡ around ps h n ++ x ∷ []
  push_around h n x a b l =
      let i : n - (length ps - h) < h = omega arith in
      let f : n < length (drop h ps ++ ps) = simp length-append (omega arith) in
      rw (drop-set-lt h ps (n - (length ps - h)) x i, ← set-append_right (drop h ps) ps (length ps - h) n x (length-drop h ps) b)
      (take_more_set (drop h ps ++ ps) n x f)

  -- one more, wherever the place behind the others is
  pub push_next : (h n : ℕ) (x : T) → h ≤ length ps → n < length ps →
      around (set ps ((h + n) % length ps) x) h (n + 1) ≡ around ps h n ++ x ∷ []
  push_next h n x a l =
      let goes = λ (i : ℕ). around (set ps i x) h (n + 1) in
      elim (dec_lt (h + n) (length ps)) [
        | yes m ↦ ap goes (sym (next_ahead h n (length ps) m)) ∙ push_ahead h n x m
        | no m ↦
            let b : length ps - h ≤ n = omega arith in
            ap goes (sym (next_around h n (length ps) a b l)) ∙ push_around h n x a b l
      ]

  pop_ahead : (h n : ℕ) (d : T) → h < length ps → around ps h (suc n) ≡ get_or ps h d ∷ around ps (suc h) n
  pop_ahead h n d l = rw (drop-cons ps h d l) refl

  -- the first, and those behind it
  pub pop_front : (h n : ℕ) (d : T) → h < length ps → 0 < n → around ps h n ≡ get_or ps h d ∷ around ps (h + 1) (n - 1)
  pop_front h n d l p =
      let e : n ≡ suc (n - 1) = omega arith in
      ap (around ps h) e ∙ pop_ahead h (n - 1) d l ∙ ap (λ k. get_or ps h d ∷ around ps k (n - 1)) (sym (add-one h))

  -- from the end on is from the start on
  pub pop_around : (n : ℕ) → n ≤ length ps → around ps (length ps) n ≡ around ps 0 n
  pop_around n l =
      let z : length ps ≤ length ps = omega arith in
      rw (drop_all (length ps) ps z) (sym (take-append-le n ps ps l))
