-- The words of a pair file: how many, and what stands where.
use Rattle.std.proofs.Common.{◌≡◌, ℕ, suc, ◌+◌, ◌<◌, List, [], ◌∷◌, map, length, get_or, ◌∙◌, arith}
use Rattle.std.proofs.lemmas.List.{length-map, length_push, get_or-map, get_or_append_left, get_or_at}
use Rattle.fileword.specs.Layout.{pair_word, end_word}
use Rattle.fileword.specs.Files.{Pair, pair_file}
use Rattle.fileword.specs.Faults.{at}

abbrev pub word_of_pair_lem : Pair → ℕ
word_of_pair_lem p = pair_word p.a p.b

pub length_pair_file : (n k : ℕ) (ps : List Pair) → length (pair_file n k ps) ≡ 2 + length ps
length_pair_file n k ps =
    omega (arith, length_push (map word_of_pair_lem ps) (end_word (length ps)), length-map ps word_of_pair_lem)

pub pair_file_pair : (n k : ℕ) (ps : List Pair) (i : ℕ) (d : Pair) → i < length ps →
    at (pair_file n k ps) (suc i) ≡ word_of_pair_lem (get_or ps i d)
pair_file_pair n k ps i d l =
    get_or_append_left (map word_of_pair_lem ps) (end_word (length ps) ∷ []) 0 i (omega (arith, length-map ps word_of_pair_lem))
    ∙ get_or-map word_of_pair_lem ps i d 0 l

pub pair_file_end : (n k : ℕ) (ps : List Pair) → at (pair_file n k ps) (suc (length ps)) ≡ end_word (length ps)
pair_file_end n k ps = get_or_at (map word_of_pair_lem ps) (end_word (length ps)) [] 0 (length ps) (length-map ps word_of_pair_lem)
