-- A set is a k-plex if each of its marks misses at most k of its marks, itself counted.
use Rattle.std.proofs.Common.{◌≡◌, ℕ, ◌<◌, ◌≤◌, true, ap, ◌∙◌, arith}
use Rattle.plex.specs.Sets.{Set, Agreement, card, ◌∩◌, ◌∖◌, Kplex}
use Rattle.plex.proofs.Count.{card_split}
use Rattle.ceiling.specs.Formulas.{misses}

-- what is counted where the row of u is taken from s, or laid over it
pub misses_counted : (a : Agreement) (s : Set) (u : ℕ) {row left : Set} {m : ℕ} → row ≡ a u → left ≡ s ∖ row → m ≡ card 128 left → m ≡ misses 128 a s u
misses_counted a s u r l e = e ∙ ap (card 128) (l ∙ ap (λ t. s ∖ t) r)

pub agreements_counted : (a : Agreement) (s : Set) (u : ℕ) {row both : Set} {m : ℕ} → row ≡ a u → both ≡ s ∩ row → m ≡ card 128 both → m ≡ card 128 (s ∩ a u)
agreements_counted a s u r b e = e ∙ ap (card 128) (b ∙ ap (λ t. s ∩ t) r)

-- u is a mark, and misses at most k marks of s
abbrev pub MissesFew : ℕ → Agreement → Set → ℕ → Type 0
MissesFew k agrees s u = (u < 128) × (misses 128 agrees s u ≤ k)

pub plex_by_misses : (k : ℕ) (a : Agreement) (s : Set) → ((u : ℕ) → s u ≡ true → MissesFew k a s u) → Kplex 128 k a s
plex_by_misses k a s h u t = ((h u t).0, omega (arith, (h u t).1, card_split 128 s (a u)))

pub no_plex : (k : ℕ) (a : Agreement) (s : Set) (u : ℕ) → s u ≡ true → k < misses 128 a s u → Kplex 128 k a s → ⊥
no_plex k a s u t l q = omega (arith, (q u t).1, card_split 128 s (a u))
