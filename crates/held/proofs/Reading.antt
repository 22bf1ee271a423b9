-- A list read mark by mark: one mark more, a mark that does not rise or is too high, and the end.
use Rattle.std.proofs.Common.{◌≡◌, ℕ, suc, ◌+◌, ◌<◌, ◌≤◌, Bool, true, false, ◌&&◌, ◌||◌, eqb, ltb, leb, List, length, get_or, drop, sym, ap, ◌∙◌, add-one, arith}
use mathlib.Core.Path.{fun_ext}
use Rattle.std.proofs.Math.Bool.{or_assoc, or-false}
use Rattle.std.proofs.lemmas.List.{at_drop_more, at_drop_all}
use Rattle.plex.specs.Sets.{Set, only, ◌∪◌, among}
use Rattle.searching.specs.Computed.{is_rising}

-- the list goes on to rise behind a mark that is in range
pub rises_on : (n low : ℕ) (list : List ℕ) (i : ℕ) → i < length list → (leb low (get_or list i 0) && ltb (get_or list i 0) n) ≡ true →
    is_rising n low (drop i list) ≡ is_rising n (get_or list i 0 + 1) (drop (i + 1) list)
rises_on n low list i h e =
    let x = get_or list i 0 in
    let rest = drop (i + 1) list in
    at_drop_more (is_rising n low) list i 0 h ∙ ap (λ b. b && is_rising n (suc x) rest) e ∙ ap (λ y. is_rising n y rest) (sym (add-one x))

-- and no more behind one that is not
pub rises_no_more : (n low : ℕ) (list : List ℕ) (i : ℕ) → i < length list → (leb low (get_or list i 0) && ltb (get_or list i 0) n) ≡ false →
    is_rising n low (drop i list) ≡ false
rises_no_more n low list i h e =
    at_drop_more (is_rising n low) list i 0 h ∙ ap (λ b. b && is_rising n (suc (get_or list i 0)) (drop (i + 1) list)) e

pub rises_to_end : (n low : ℕ) (list : List ℕ) (i : ℕ) → length list ≤ i → is_rising n low (drop i list) ≡ true
rises_to_end n low list i h = at_drop_all (is_rising n low) list i h

-- a mark is taken from the list into the set
pub taken_in : (s s' : Set) (list : List ℕ) (i : ℕ) → i < length list → s' ≡ s ∪ only (get_or list i 0) →
    s ∪ among (drop i list) ≡ s' ∪ among (drop (i + 1) list)
taken_in s s' list i h e =
    at_drop_more (λ xs. s ∪ among xs) list i 0 h
    ∙ fun_ext (λ j. sym (or_assoc (s j) (eqb j (get_or list i 0)) (among (drop (i + 1) list) j)))
    ∙ ap (λ t. t ∪ among (drop (i + 1) list)) (sym e)

pub all_taken_in : (s : Set) (list : List ℕ) (i : ℕ) → length list ≤ i → s ∪ among (drop i list) ≡ s
all_taken_in s list i h = at_drop_all (λ xs. s ∪ among xs) list i h ∙ fun_ext (λ j. or-false (s j))
