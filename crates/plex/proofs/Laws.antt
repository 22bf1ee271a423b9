-- The laws, put together from their lemmas.
use Rattle.plex.specs.Laws.{PartsArePlexes, TestFindsPlexes, LeastFound, Counting, WordsHoldSets, WordsCombine, Rises}
use Rattle.plex.proofs.Count.{card_or, card_split, card_more, card_none, heredity}
use Rattle.plex.proofs.Decide.{kplex_decides}
use Rattle.plex.proofs.Least.{least_is, least_unique}
use Rattle.plex.proofs.Words.{card_words, bits_of_and, bits_of_or, bits_of_not, holds_insert, holds_remove}
use Rattle.plex.proofs.Pack.{words_ext, words_of_words, holds_words_of}
use Rattle.plex.proofs.Rising.{length_rising, rising_within, rising_all, rising_rises}

pub parts_are_plexes_lem : PartsArePlexes
parts_are_plexes_lem = heredity

pub test_finds_plexes_lem : TestFindsPlexes
test_finds_plexes_lem = kplex_decides

pub least_found : LeastFound
least_found = record { found = least_is; unique = least_unique }

pub counting : Counting
counting = record { both = card_or; split = card_split; joins = card_more; empty = card_none }

pub words_hold_sets_lem : WordsHoldSets
words_hold_sets_lem = record { same = words_ext; words = words_of_words; kept = holds_words_of; ones = card_words }

pub words_combine_lem : WordsCombine
words_combine_lem = record { both = bits_of_and; either = bits_of_or; flipped = bits_of_not 32; joined = holds_insert; removed = holds_remove }

pub lists_rise_lem : Rises
lists_rise_lem = record { long = length_rising; within = rising_within; all = rising_all; rises = rising_rises }
