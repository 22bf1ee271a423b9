use Rattle.std.proofs.Common.{◌≡◌, length, rules}
use Rattle.plex.specs.Sets.{only, ◌∪◌, Kplex}
use Rattle.marks.specs.Members.{members}
use Rattle.marks.proofs.Four.{holds_within}
use Rattle.tables.specs.Meanings.{bit_meaning}
use Rattle.branch.specs.Opened.{agreed}
use Rattle.branch.specs.Sifting.{Borne, MissesUnder}
use Rattle.branch.proofs.Adding.{plex_from_tests, plex_bears, plex_misses_under}
use Rattle.branch.proofs.Sifts.{sifted_both}
use Rattle.branch.proofs.opened.Opened.joinable.Goals as goal

pub returns : goal.returns
returns c =
    let q = c.args.self in
    let k = q.k in
    let s = members q.chosen in
    let d = members q.candidates in
    let p : length q.chosen.words ≡ 4 = search rules in
    let w : length q.candidates.words ≡ 4 = search rules in
    let mark = holds_within q.candidates.words w in
    sifted_both (Borne k (agreed q) s) (MissesUnder k (agreed q) s) (λ v. Kplex 128 k (agreed q) (s ∪ only v)) d (members c.borne.result) (members c.missing_few.result)
    c.borne.ensures c.missing_few.ensures
    (λ v t. plex_from_tests k (agreed q) s v (mark v t) (holds_within q.chosen.words p))
    (λ v t x. (plex_bears k (agreed q) s v (mark v t) x, plex_misses_under k (agreed q) s v (mark v t) (bit_meaning q.table.now).irreflexive x))
