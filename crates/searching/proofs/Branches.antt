-- Open branches: how many there can be, what a larger group changes, the steps that they can take.
use Rattle.std.proofs.Common.{◌≡◌, ℕ, zero, suc, ◌+◌, ◌*◌, ◌^◌, ◌≤◌, true, false, List, [], ◌∷◌, length, refl, ap, inl, inr, pow-suc, one-add, arith}
use Rattle.std.proofs.lemmas.Bool.{false≢true}
use Rattle.plex.specs.Sets.{Set, Agreement, TwoWay, NoSelf, card, ◌∩◌, Kplex, Within}
use Rattle.plex.proofs.Count.{card_le, card_beyond, heredity}
use Rattle.ceiling.specs.Rules.{Number, reply, Between, Lawful}
use Rattle.ceiling.proofs.Lawful.{between_size}
use Rattle.searching.specs.States.{Branch, widest, steps_for, steps_over, none_open, capped}
use Rattle.searching.specs.Sound.{InSome, SoundBranches, Widening, Stacked}

-- a k-plex among n marks is one among 128
pub plex_beyond : (n k : ℕ) (a : Agreement) (p : Set) → n ≤ 128 → Kplex n k a p → Kplex 128 k a p
plex_beyond n k a p few q i t =
    let within : Within n p = λ j u. (q j u).0 in
    let x = card_beyond n 128 p within few in
    let y = card_beyond n 128 (p ∩ a i) (λ j u. within j (grind arith)) few in
    let z = q i t in
    (omega arith, omega arith)

-- a lawful rule's number bounds the k-plexes that a branch stands for
pub rule_bounds : (n k : ℕ) (a : Agreement) (rule : Number) (s c p : Set) → n ≤ 128 → Lawful rule → TwoWay a → NoSelf a → Within n c →
    Kplex n k a p → Between s c p → card n p ≤ reply rule k a s c
rule_bounds n k a rule s c p few law two self w q b =
    let z = law.above k a s c two self (λ i t. let y = w i t in omega arith)
    (plex_beyond n k a s few (heredity n k a s p b.0 q)) p (plex_beyond n k a p few q) b in
    omega (arith, z, card_beyond n 128 p (λ i t. (q i t).0) few)

-- with a larger group held the branches are as sound
pub sound_raise : (n k : ℕ) (a : Agreement) (h h' : ℕ) (bs : List Branch) → h ≤ h' → SoundBranches n k a h bs → SoundBranches n k a h' bs
sound_raise n k a h h' [] l o = tt
sound_raise n k a h h' (b ∷ bs) l o = (
  record {
    chosen = o.0.chosen;
    candidates = o.0.candidates;
    apart = o.0.apart;
    plex = elim o.0.plex [ inl q ↦ inl q | inr m ↦ inr (omega arith) ];
  },
  sound_raise n k a h h' bs l o.1,
)

pub widening_lower : (n low low' : ℕ) (bs : List Branch) → low' ≤ low → Widening n low bs → Widening n low' bs
widening_lower n low low' [] l w = tt
widening_lower n low low' (b ∷ bs) l w = (omega (arith, w.0), w.1, w.2)

pub stacked_pop : (n : ℕ) (b : Branch) (bs : List Branch) → Stacked n (b ∷ bs) → Stacked n bs
stacked_pop n b [] w = tt
stacked_pop n b (b' ∷ bs) w = widening_lower n (card n b'.candidates + 1) (card n b'.candidates) bs (omega arith) w.2

widening_few : (n low : ℕ) (bs : List Branch) → low ≤ n → Widening n low bs → low + length bs ≤ n
widening_few n low [] l w = omega arith
widening_few n low (b ∷ bs) l w = omega (arith, w.0, w.1, widening_few n (card n b.candidates + 1) bs (omega (arith, w.1)) w.2)

-- no more than n + 1 branches are open
pub stacked_few : (n : ℕ) (bs : List Branch) → Stacked n bs → length bs ≤ n + 1
stacked_few n [] w = omega arith
stacked_few n (b ∷ bs) w = omega (arith, widening_few n (card n b.candidates) bs (card_le n b.candidates) w)

-- no k-plex of the branches is wider than they are
pub in_widest : (n k : ℕ) (a : Agreement) (bs : List Branch) (p : Set) → InSome bs p → card n p ≤ widest n bs
in_widest n k a (b ∷ bs) p (inl w) = omega (arith, between_size n b.chosen b.candidates p w)
in_widest n k a (b ∷ bs) p (inr o) = omega (arith, in_widest n k a bs p o)
in_widest n k a [] p o = absurd o

pub steps_for_is : (c : ℕ) → steps_for c + 1 ≡ 2 ^ (c + 1)
unfolding steps_for
steps_for_is zero = refl
steps_for_is (suc c) = omega (arith, steps_for_is c, pow-suc 2 (c + 1), ap (λ x. 2 ^ x) e)
  where
    e : suc c + 1 ≡ suc (c + 1)
    e = omega arith

pub steps_for_some : (c : ℕ) → 1 ≤ steps_for c
unfolding steps_for
steps_for_some zero = omega arith
steps_for_some (suc c) = omega arith

pub steps_for_mono : (c d : ℕ) → c ≤ d → steps_for c ≤ steps_for d
unfolding steps_for
steps_for_mono zero d h = steps_for_some d
steps_for_mono (suc c) zero h = let z : ⊥ = omega arith in absurd z
steps_for_mono (suc c) (suc d) h = omega (arith, steps_for_mono c d (omega arith))

pub steps_for_more : (c : ℕ) → steps_for (1 + c) ≡ 1 + 2 * steps_for c
unfolding steps_for
steps_for_more c = ap steps_for (one-add c)

-- Counts that stop at the cap, for code above this theory: capping on the way or at the end gives the same.
pub capped_for : (x : ℕ) → capped (1 + 2 * capped x) ≡ capped (1 + 2 * x)
capped_for x = omega arith

pub capped_sum : (x y : ℕ) → capped (capped x + capped y) ≡ capped (x + y)
capped_sum x y = omega arith

-- where no step is left no branch is open
pub none_left : (n : ℕ) (bs : List Branch) → steps_over n bs ≤ 0 → none_open bs ≡ true
none_left n [] h = refl
none_left n (b ∷ bs) h = let z : ⊥ = omega (arith, steps_for_some (card n b.candidates)) in absurd z

pub open_none : (bs : List Branch) → none_open bs ≡ true → bs ≡ []
open_none [] h = refl
open_none (b ∷ bs) h = absurd (false≢true h)
