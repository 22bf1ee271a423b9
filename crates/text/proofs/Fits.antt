-- A list of which at most the first n elements are kept.
use Rattle.std.proofs.Common.{◌≡◌, ℕ, zero, suc, ◌+◌, ◌-◌, ◌<◌, ◌≤◌, List, [], ◌∷◌, ◌++◌, length, min, take, set, sym, refl, ap, ◌∙◌, arith, length-append, length-take}
use Rattle.std.proofs.Math.Seq.{take-append-add}
use Rattle.std.proofs.lemmas.List.{take_all, take-append-le, take_min, take_more_set}

module _ {X : Type 0} where
  -- what was left out before more was put behind is left out after
  pub take_cut_append : (n : ℕ) (xs ys : List X) → take n (take n xs ++ ys) ≡ take n (xs ++ ys)
  take_cut_append zero xs ys = refl
  take_cut_append (suc n) [] ys = refl
  take_cut_append (suc n) (x ∷ xs) ys = ap (λ (zs : List X). x ∷ zs) (take_cut_append n xs ys)

  -- one push after another: `was` stood before this push, and `after` stands after it
  pub pushed : (n : ℕ) {was after : List X} (xs ys : List X) → was ≡ take n xs → after ≡ take n (was ++ ys) → after ≡ take n (xs ++ ys)
  pushed n xs ys w a = a ∙ ap (λ (zs : List X). take n (zs ++ ys)) w ∙ take_cut_append n xs ys

  -- the first k of xs, with one more, where there is room
  pub push_fits : (n k : ℕ) (xs : List X) (y : X) → k < n → k < length xs → take (k + 1) (set xs k y) ≡ take n (take k xs ++ y ∷ [])
  push_fits n k xs y l i =
      let e : length (take k xs ++ y ∷ []) ≤ n = simp (length-append, length-take) (omega arith) in
      take_more_set xs k y i ∙ sym (take_all n (take k xs ++ y ∷ []) e)

  -- and where there is none
  pub push_left_out : (n k : ℕ) (xs ys : List X) → k ≤ n → n ≤ k → n ≤ length xs → take k xs ≡ take n (take k xs ++ ys)
  push_left_out n k xs ys a b l =
      let e : n ≤ length (take k xs) = simp length-take (omega arith) in
      let f : length (take k xs) ≤ n = simp length-take (omega arith) in
      sym (take-append-le n (take k xs) ys e ∙ take_all n (take k xs) f)

  -- of ys, which is put behind the first k of xs, as much as there is room for
  pub put_behind : (n k : ℕ) (xs ys : List X) → k ≤ n → k ≤ length xs → take k xs ++ take (min (n - k) (length ys)) ys ≡ take n (take k xs ++ ys)
  put_behind n k xs ys l m =
      let e : length (take k xs) + (n - k) ≡ n = simp length-take (omega arith) in
      ap (λ (zs : List X). take k xs ++ zs) (take_min (n - k) ys) ∙ sym (take-append-add (take k xs) ys (n - k)) ∙ ap (λ (i : ℕ). take i (take k xs ++ ys)) e
