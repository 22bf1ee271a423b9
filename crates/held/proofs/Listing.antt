-- A list that is written element by element: what stands in its first places, and what is to come, make the whole.
use Rattle.std.proofs.Common.{◌≡◌, ℕ, ◌+◌, ◌<◌, ◌≤◌, List, [], ◌∷◌, ◌++◌, length, take, set, sym, ap, ◌∙◌, append_assoc, arith}
use Rattle.std.proofs.lemmas.List.{append-nil, length-append, length-take-le, take_more_set}

-- while an element is to come, fewer than all were written
pub listed_fewer : (xs rest rest' all : List ℕ) (filled x : ℕ) → filled ≤ length xs → rest ≡ x ∷ rest' → take filled xs ++ rest ≡ all → filled < length all
listed_fewer xs rest rest' all filled x h e whole =
    omega (arith, ap length whole, ap length e, length-append (take filled xs) rest, length-take-le filled xs h)

pub listed_more : (xs rest rest' all : List ℕ) (filled x : ℕ) → filled < length xs → rest ≡ x ∷ rest' → take filled xs ++ rest ≡ all →
    take (filled + 1) (set xs filled x) ++ rest' ≡ all
listed_more xs rest rest' all filled x h e whole =
    ap (λ (ys : List ℕ). ys ++ rest') (take_more_set xs filled x h)
    ∙ append_assoc (take filled xs) (x ∷ []) rest'
    ∙ ap (λ (ys : List ℕ). take filled xs ++ ys) (sym e)
    ∙ whole

-- when no element is to come, as many were written as there are
pub listed_all : (xs rest all : List ℕ) (filled : ℕ) → filled ≤ length xs → rest ≡ [] → take filled xs ++ rest ≡ all → take (length all) xs ≡ all
listed_all xs rest all filled h e whole =
    let written : take filled xs ≡ all = sym (append-nil (take filled xs)) ∙ ap (λ (ys : List ℕ). take filled xs ++ ys) (sym e) ∙ whole in
    let same : length all ≡ filled = omega (arith, ap length written, length-take-le filled xs h) in
    ap (λ (m : ℕ). take m xs) same ∙ written
