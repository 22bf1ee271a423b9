-- What an open branch is asked. Assumes nothing.
use Rattle.plex.specs.Sets.{Agreement}
use Rattle.tables.specs.Meanings.{bit_meaning}
use Rattle.branch.specs.declared.opened.Opened.{Opened}

-- the agreement of the table
abbrev pub agreed : Opened → Agreement
agreed q = (bit_meaning q.table.now).agrees
