-- The words of a measured file: how many, and what stands where.
use Rattle.std.proofs.Common.{◌≡◌, ℕ, suc, ◌+◌, ◌*◌, ◌<◌, List, [], ◌∷◌, length, get_or, ◌∙◌, arith}
use Rattle.std.specs.List.{flat_map}
use Rattle.std.proofs.lemmas.List.{length_push, get_or_append_left, get_or_at}
use Rattle.plex.specs.Distance.{Sighting}
use Rattle.fileword.specs.Layout.{end_word}
use Rattle.fileword.specs.Files.{sighting_words, measured_file}
use Rattle.fileword.specs.Faults.{at}
use Rattle.fileword.proofs.Points.{length_sightings, sightings_at}

pub length_measured_file : (n k t : ℕ) (ss : List Sighting) → length (measured_file n k t ss) ≡ 3 + 4 * length ss
length_measured_file n k t ss =
    omega (arith, length_push (flat_map sighting_words ss) (end_word n), length_sightings ss)

pub measured_file_mark : (n k t : ℕ) (ss : List Sighting) (i r : ℕ) (d : Sighting) → i < length ss → r < 4 →
    at (measured_file n k t ss) (suc (suc (4 * i + r))) ≡ get_or (sighting_words (get_or ss i d)) r 0
measured_file_mark n k t ss i r d l h =
    get_or_append_left (flat_map sighting_words ss) (end_word n ∷ []) 0 (4 * i + r) (omega (arith, length_sightings ss))
    ∙ sightings_at ss i r d l h

pub measured_file_end : (n k t : ℕ) (ss : List Sighting) → at (measured_file n k t ss) (suc (suc (4 * length ss))) ≡ end_word n
measured_file_end n k t ss = get_or_at (flat_map sighting_words ss) (end_word n) [] 0 (4 * length ss) (length_sightings ss)
