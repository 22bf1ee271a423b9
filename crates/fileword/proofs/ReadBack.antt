-- What was written into a file is read out of it.
use Rattle.std.proofs.Common.{◌≡◌, ℕ, suc, ◌+◌, ◌*◌, ◌^◌, ◌<◌, min, max, false, ◌&&◌, ◌||◌, eqb, List, [], ◌∷◌, ◌++◌, map, length, get_or, refl, ap, ◌∙◌, ap₂, inl, inr, arith}
use Rattle.std.specs.List.{AllByRecursion}
use Rattle.std.proofs.ByRecursion.{All-get_or}
use Rattle.std.proofs.lemmas.Bool.{cases_lt, ne_eqb, or_from}
use Rattle.std.proofs.lemmas.Bool.Decides.{nat_tests}
use Rattle.plex.specs.Distance.{Sighting}
use Rattle.plex.specs.Sets.{among}
use Rattle.fileword.specs.Layout.{load, head_word, pair_word, end_word, point_of}
use Rattle.fileword.specs.Files.{Pair, NamesMarks, OnDome, measured_file, PairFile, MeasuredFile, named_in, sighting_words}
use Rattle.fileword.specs.Faults.{at}
use Rattle.fileword.specs.Laws.{sighting_at, ReadsBack}
use Rattle.fileword.proofs.Words.{load_word}
use Rattle.fileword.proofs.Points.{point_read}
use Rattle.fileword.proofs.PairWords.{word_of_pair_lem}
use Rattle.fileword.proofs.MeasuredWords.{measured_file_mark}

-- below 2 ^ 8, two pairs have one word only if they are one pair
pub pair_word_equal : (a b c d : ℕ) → a < 2 ^ 8 → b < 2 ^ 8 → c < 2 ^ 8 → d < 2 ^ 8 →
    eqb (pair_word a b) (pair_word c d) ≡ (eqb c a && eqb d b)
pair_word_equal a b c d f g h i = grind (arith, nat_tests)

-- the marks of a pair, the lower first, are i and j in their order
either_order : (a b i j : ℕ) → a < b → (eqb a (min i j) && eqb b (max i j)) ≡ ((eqb a i && eqb b j) || (eqb a j && eqb b i))
either_order a b i j l =
    elim (cases_lt i j) [
      | inl g ↦ (let e : min i j ≡ i = omega arith in let f : max i j ≡ j = omega arith in rw (e, f) (grind (arith, nat_tests)))
      | inr g ↦ (let e : min i j ≡ j = omega arith in let f : max i j ≡ i = omega arith in rw (e, f) (grind (arith, nat_tests)))
    ]

-- a pair's word is not that of a head, nor of an end
pub pair_no_head : (a b n k : ℕ) → n < 2 ^ 8 → k < 2 ^ 8 → eqb (pair_word a b) (head_word n k) ≡ false
pair_no_head a b n k g h = ne_eqb (pair_word a b) (head_word n k) (λ e. omega arith)

pub pair_no_end : (a b m : ℕ) → a < 2 ^ 8 → b < 2 ^ 8 → eqb (pair_word a b) (end_word m) ≡ false
pair_no_end a b m g h = ne_eqb (pair_word a b) (end_word m) (λ e. omega arith)

pairs_among : (n m i j : ℕ) (ps : List Pair) → n < 2 ^ 8 → i < n → j < n → AllByRecursion (NamesMarks n) ps →
    among (map word_of_pair_lem ps ++ end_word m ∷ []) (pair_word (min i j) (max i j)) ≡ named_in ps i j
pairs_among n m i j [] l f g h =
    or_from (eqb (pair_word (min i j) (max i j)) (end_word m)) false (pair_no_end (min i j) (max i j) m (omega arith) (omega arith)) refl
pairs_among n m i j (p ∷ ps) l f g h =
    ap₂ ◌||◌
    (pair_word_equal (min i j) (max i j) p.a p.b (omega arith) (omega arith) (omega arith) (omega arith)
    ∙ either_order p.a p.b i j h.0.0)
    (pairs_among n m i j ps l f g h.1)

pub pairs_back : (n k : ℕ) (ps : List Pair) (ws : List ℕ) → n < 2 ^ 8 → k < 2 ^ 8 → PairFile n k ps ws → (i j : ℕ) → i < n → j < n →
    among ws (pair_word (min i j) (max i j)) ≡ named_in ps i j
pairs_back n k ps ws g h w i j l m =
    ap (λ xs. among xs (pair_word (min i j) (max i j))) w.written
    ∙ ap₂ ◌||◌ (pair_no_head (min i j) (max i j) n k g h) (pairs_among n (length ps) i j ps g l m w.marks)

pub tolerance_back : (n k t : ℕ) (ss : List Sighting) (ws : List ℕ) → MeasuredFile n k t ss ws → load (at ws 1) ≡ t
tolerance_back n k t ss ws w = ap (λ xs. load (at xs 1)) w.written ∙ load_word 7 t w.range

pub sightings_back : (n k t : ℕ) (ss : List Sighting) (ws : List ℕ) → MeasuredFile n k t ss ws → (i : ℕ) → i < n →
    (d : Sighting) → sighting_at ws i ≡ get_or ss i d
sightings_back n k t ss ws w i l d =
    ap (λ xs. sighting_at xs i) w.written ∙ ap₂ (λ p q. record { planned = p; seen = q }) first second
  where
    inside : i < length ss
    inside = omega (arith, w.marks)

    spot : (r p : ℕ) → r < 4 → p ≡ suc (suc (4 * i + r)) → at (measured_file n k t ss) p ≡ get_or (sighting_words (get_or ss i d)) r 0
    spot r p h e = ap (at (measured_file n k t ss)) e ∙ measured_file_mark n k t ss i r d inside h

    first : (sighting_at (measured_file n k t ss) i).planned ≡ (get_or ss i d).planned
    first =
        ap₂ point_of (spot 0 (2 + 4 * i) (omega arith) (omega arith)) (spot 1 (3 + 4 * i) (omega arith) (omega arith))
        ∙ point_read 3 (get_or ss i d).planned (All-get_or (λ s. OnDome s.planned) ss i d inside w.planned)

    second : (sighting_at (measured_file n k t ss) i).seen ≡ (get_or ss i d).seen
    second =
        ap₂ point_of (spot 2 (4 + 4 * i) (omega arith) (omega arith)) (spot 3 (5 + 4 * i) (omega arith) (omega arith))
        ∙ point_read 5 (get_or ss i d).seen (All-get_or (λ s. OnDome s.seen) ss i d inside w.seen)

pub read_back : ReadsBack
read_back = record { pairs = pairs_back; tolerance = tolerance_back; sightings = sightings_back }
