-- Words stored from bytes, one more; and bytes are the bytes of one list of words.
use Rattle.std.proofs.Common.{◌≡◌, ℕ, zero, suc, ◌+◌, ◌*◌, ◌/◌, ◌%◌, ◌^◌, ◌<◌, List, [], ◌∷◌, ◌++◌, length, get_or, take, drop, set, sym, refl, ap, ◌∙◌, ap₂, append_assoc, arith, Fits, w8, w32}
use Rattle.std.specs.Int.{from_le_bytes}
use Rattle.std.specs.List.{flat_map}
use Rattle.std.specs.Simd.{first_chunks}
use Rattle.std.proofs.Math.Facts.{Fits-lt-pow}
use Rattle.std.proofs.lemmas.List.{take_more, take_more_set, flat_map_more, get_or-take, get_or-drop}
use Rattle.page.specs.Bytes.{word_bytes}

-- four elements more
take_four : (bs : List ℕ) (p : ℕ) → p + 3 < length bs →
    take (p + 4) bs ≡ take p bs ++ (get_or bs p 0 ∷ get_or bs (p + 1) 0 ∷ get_or bs (p + 2) 0 ∷ get_or bs (p + 3) 0 ∷ [])
take_four bs p h =
    let one = take_more bs p 0 (omega arith) in
    let two = step (p + 1) (p + 2) (omega arith) (omega arith) in
    let three = step (p + 2) (p + 3) (omega arith) (omega arith) in
    let four = step (p + 3) (p + 4) (omega arith) (omega arith) in
    four ∙ ap (λ (xs : List ℕ). xs ++ (get_or bs (p + 3) 0 ∷ [])) (three ∙ ap (λ (xs : List ℕ). xs ++ (get_or bs (p + 2) 0 ∷ [])) (two ∙ ap (λ (xs : List ℕ). xs ++ (get_or bs (p + 1) 0 ∷ [])) one))
    ∙ simp append_assoc
  where
    step : (q r : ℕ) → q + 1 ≡ r → q < length bs → take r bs ≡ take q bs ++ (get_or bs q 0 ∷ [])
    step q r e l = ap (λ (m : ℕ). take m bs) (sym e) ∙ take_more bs q 0 l

-- what stands at a place of a chunk of four
chunk_at : (k i j : ℕ) (bs : List ℕ) → i < k → j < 4 → get_or (get_or (first_chunks 4 k bs) i []) j 0 ≡ get_or bs (4 * i + j) 0
chunk_at zero i j bs l m = absurd (omega (arith, l))
chunk_at (suc k) zero j bs l m = get_or-take 4 bs j 0 m ∙ ap (λ (n : ℕ). get_or bs n 0) (omega arith)
chunk_at (suc k) (suc i) j bs l m = chunk_at k i j (drop 4 bs) (omega (arith, l)) m ∙ get_or-drop 4 bs (4 * i + j) 0 ∙ ap (λ (n : ℕ). get_or bs n 0) (omega arith)

-- the word that a chunk is has its four bytes
pub word_of_chunk : (k i w : ℕ) (bs : List ℕ) → i < k → ((j : ℕ) → Fits w8 (get_or bs j 0)) → w ≡ from_le_bytes w32 (get_or (first_chunks 4 k bs) i []) →
    word_bytes w ≡ get_or bs (4 * i) 0 ∷ get_or bs (4 * i + 1) 0 ∷ get_or bs (4 * i + 2) 0 ∷ get_or bs (4 * i + 3) 0 ∷ []
word_of_chunk k i w bs l fits e =
    let four = get_or (first_chunks 4 k bs) i [] in
    let whole : w ≡ get_or four 0 0 + get_or four 1 0 * 256 + get_or four 2 0 * 65536 + get_or four 3 0 * 16777216 = e in
    let byte : (j : ℕ) → get_or bs j 0 < 256 = λ j. Fits-lt-pow {w = w8} (fits j) in
    let at : (j : ℕ) → j < 4 → get_or four j 0 ≡ get_or bs (4 * i + j) 0 = λ j m. chunk_at k i j bs l m in
    let a : get_or four 0 0 ≡ get_or bs (4 * i) 0 = at 0 (omega arith) ∙ ap (λ (n : ℕ). get_or bs n 0) (omega arith) in
    let b = at 1 (omega arith) in
    let c = at 2 (omega arith) in
    let d = at 3 (omega arith) in
    let la = byte (4 * i) in
    let lb = byte (4 * i + 1) in
    let lc = byte (4 * i + 2) in
    let ld = byte (4 * i + 3) in
    let e0 : w % 2 ^ 8 ≡ get_or bs (4 * i) 0 = omega arith in
    let e1 : w / 2 ^ 8 % 2 ^ 8 ≡ get_or bs (4 * i + 1) 0 = omega arith in
    let e2 : w / 2 ^ 16 % 2 ^ 8 ≡ get_or bs (4 * i + 2) 0 = omega arith in
    let e3 : w / 2 ^ 24 ≡ get_or bs (4 * i + 3) 0 = omega arith in
    ap₂ ◌∷◌ e0 (ap₂ ◌∷◌ e1 (ap₂ ◌∷◌ e2 (ap (λ (n : ℕ). n ∷ []) e3)))

pub stored_more : (bs ws : List ℕ) (i w : ℕ) → i < length ws → 4 * i + 3 < length bs → flat_map word_bytes (take i ws) ≡ take (4 * i) bs →
    word_bytes w ≡ get_or bs (4 * i) 0 ∷ get_or bs (4 * i + 1) 0 ∷ get_or bs (4 * i + 2) 0 ∷ get_or bs (4 * i + 3) 0 ∷ [] →
    flat_map word_bytes (take (i + 1) (set ws i w)) ≡ take (4 * (i + 1)) bs
stored_more bs ws i w l h e f =
    let g : 4 * i + 4 ≡ 4 * (i + 1) = omega arith in
    ap (flat_map word_bytes) (take_more_set ws i w l) ∙ sym (flat_map_more word_bytes [] (take i ws) w) ∙ ap₂ ◌++◌ e f
    ∙ sym (take_four bs (4 * i) h) ∙ ap (λ (m : ℕ). take m bs) g

-- a word is known by its bytes
word_known : (v w : ℕ) → v % 2 ^ 8 ≡ w % 2 ^ 8 → v / 2 ^ 8 % 2 ^ 8 ≡ w / 2 ^ 8 % 2 ^ 8 → v / 2 ^ 16 % 2 ^ 8 ≡ w / 2 ^ 16 % 2 ^ 8 → v / 2 ^ 24 ≡ w / 2 ^ 24 → v ≡ w
word_known v w a b c d = omega arith

pub words_known : (us vs : List ℕ) → flat_map word_bytes us ≡ flat_map word_bytes vs → us ≡ vs
words_known [] [] e = refl
words_known [] (v ∷ vs) e = absurd (omega (arith, ap length e))
words_known (u ∷ us) [] e = absurd (omega (arith, ap length e))
words_known (u ∷ us) (v ∷ vs) e =
    let a : u % 2 ^ 8 ≡ v % 2 ^ 8 = cc in
    let b : u / 2 ^ 8 % 2 ^ 8 ≡ v / 2 ^ 8 % 2 ^ 8 = cc in
    let c : u / 2 ^ 16 % 2 ^ 8 ≡ v / 2 ^ 16 % 2 ^ 8 = cc in
    let d : u / 2 ^ 24 ≡ v / 2 ^ 24 = cc in
    let rest : flat_map word_bytes us ≡ flat_map word_bytes vs = cc in
    ap₂ ◌∷◌ (word_known u v a b c d) (words_known us vs rest)
