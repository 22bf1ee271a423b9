use Rattle.std.proofs.Common.{◌<◌, Ok, Err, Result, sym, ◌∙◌}
use Rattle.std.specs.Result.{IsErr}
use Rattle.std.proofs.lemmas.Bool.{false≢true}
use Rattle.plex.specs.Meaning.{Meaning}
use Rattle.marks.specs.Members.{members}
use Rattle.pruning.specs.Pruned.{agreements}
use Rattle.tables.specs.declared.pairs.TableRefusal.{TableRefusal}
use Rattle.tables.specs.declared.pairs.TableRefusal.TheVariants.{TooManyAgreements}
use Rattle.tables.specs.declared.pairs.listing.PairList.{PairList}
use Rattle.tables.specs.Copying.{listed, Listed}
use Rattle.tables.proofs.PairLists.{pairs_none, pairs_step, pairs_too_long}
use Rattle.tables.proofs.pairs.copying.pairs_of.Goals as goal

-- a listing that was refused
refused : (m : Meaning) (r : Result PairList TableRefusal) → IsErr r → 4096 < agreements m.marks m.agrees → Listed m r
refused m (Ok l) e h = absurd (false≢true e)
refused m (Err TooManyAgreements) e h = h

pub loop-i-init : goal.loop-i-init
loop-i-init g c = c.empty-list.ensures ∙ sym (pairs_none c.marks-marks.result (g.S.Sheet.meaning c.args.sheet.now).agrees)

pub returns-in_err-add_row : goal.returns-in_err-add_row
returns-in_err-add_row g c =
    let m = g.S.Sheet.meaning c.args.sheet.now in
    refused m c.from_residual.result c.from_residual.ensures.0
    (pairs_too_long (listed c.loop-i.list) c.loop-i.i c.marks-marks.result m.agrees (members c.neighbours.result)
    c.loop-i.invariant c.neighbours.ensures.set m.marks c.marks-marks.ensures c.loop-i-test.true c.in_err-add_row.ensures)

pub loop-i-preserved : goal.loop-i-preserved
loop-i-preserved g c =
    let m = g.S.Sheet.meaning c.args.sheet.now in
    pairs_step (listed c.loop-i.list) c.loop-i.i c.marks-marks.result m.agrees (members c.neighbours.result)
    c.loop-i.invariant c.neighbours.ensures.set (listed c.add_row.new.self) c.in_ok-add_row.ensures
