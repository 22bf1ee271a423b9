use Rattle.std.proofs.Common.{◌<◌, length, refl, ◌∙◌, arith, length-set}
use Rattle.tables.proofs.Rows.{rows_below_none, rows_below_more, rows_below_all}
use Rattle.tables.proofs.bits.copying.rows_of.Goals as goal

pub loop-i-init : goal.loop-i-init
loop-i-init g c = (refl, rows_below_none 128 (g.S.Sheet.meaning c.args.sheet.now).agrees)

pub loop-i-preserved : goal.loop-i-preserved
loop-i-preserved g c =
    let m = g.S.Sheet.meaning c.args.sheet.now in
    let rows = c.loop-i.rows in
    let i = c.loop-i.i in
    let l : i < length rows = omega (arith, m.few, c.marks-i-end.ensures, c.loop-i.invariant.0) in
    (simp length-set c.loop-i.invariant.0, rows_below_more rows m.agrees i c.row.result l c.loop-i.invariant.1 c.row.ensures)

pub returns : goal.returns
returns g c =
    let m = g.S.Sheet.meaning c.args.sheet.now in
    c.loop-i.invariant.1 ∙ rows_below_all m.agrees m.marks c.loop-i.i (omega (arith, c.marks-i-end.ensures)) m.inside
