-- A write into a part of a list, and a read from one.
use Rattle.std.proofs.Common.{◌≡◌, ℕ, ◌+◌, ◌-◌, ◌<◌, ◌≤◌, List, ◌++◌, length, get_or, take, drop, set, sym, ap, ◌∙◌, arith, length-drop, length-take, get_or-drop, get_or-take}
use lib.Seq.{set-append_left}
use borrow.Rule.Slice.PartMut.{put_mid}
use Rattle.std.proofs.lemmas.List.{set-append_right, take-append-drop}

pub part_set : (xs : List ℕ) (a k m v : ℕ) → a + k ≤ length xs → m < k → put_mid a k xs (set (take k (drop a xs)) m v) ≡ set xs (a + m) v
part_set xs a k m v l p =
    let tl : m < length (take k (drop a xs)) = simp (length-take, length-drop) (omega arith) in
    let al : length (take a xs) ≡ a = simp length-take (omega arith) in
    let le : a ≤ a + m = omega arith in
    let sub : a + m - a ≡ m = omega arith in
    ap (λ (ys : List ℕ). take a xs ++ ys)
    (sym (set-append_left (take k (drop a xs)) (drop k (drop a xs)) m v tl)
    ∙ ap (λ (ys : List ℕ). set ys m v) (take-append-drop k (drop a xs)))
    ∙ ap (λ (i : ℕ). take a xs ++ set (drop a xs) i v) (sym sub)
    ∙ sym (set-append_right (take a xs) (drop a xs) a (a + m) v al le)
    ∙ ap (λ (ys : List ℕ). set ys (a + m) v) (take-append-drop a xs)

pub part_at : (xs : List ℕ) (a k m : ℕ) → m < k → get_or (take k (drop a xs)) m 0 ≡ get_or xs (a + m) 0
part_at xs a k m p = rw (get_or-take, get_or-drop)
