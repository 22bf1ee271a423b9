-- What a rule is asked, and what it finds. Assumes nothing.
use Rattle.std.specs.Prelude.{◌≡◌, ℕ, Option}
use Rattle.std.specs.Option.{unwrap_or}
use Rattle.plex.specs.Sets.{Agreement}
use Rattle.ceiling.specs.Rules.{Number}
use Rattle.ceiling.specs.Formulas.{marks_of_both}
use Rattle.marks.specs.Members.{members}
use Rattle.tables.specs.Meanings.{bit_meaning}
use Rattle.rule.specs.declared.asked.Asked.{Asked}

-- the agreement of the table
abbrev pub agreed : Asked → Agreement
agreed q = (bit_meaning q.table.now).agrees

-- the number of a rule, or none where that is |S| + |C|
abbrev pub Finds : (ℕ → Number) → Asked → Option ℕ → Type 0
Finds number q found =
    unwrap_or found (marks_of_both 128 (members q.chosen) (members q.others)) ≡ number 128 q.k (agreed q) (members q.chosen) (members q.others)
