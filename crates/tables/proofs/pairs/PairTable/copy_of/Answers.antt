use Rattle.std.proofs.Common.{◌≡◌, ◌≤◌, length, arith, rules}
use Rattle.tables.proofs.Places.{made_fits, made_each, made_rising, made_fresh, made_agrees}
use Rattle.tables.proofs.pairs.PairTable.copy_of.Goals as goal

pub invariant_of-result : goal.invariant_of-result
invariant_of-result g c =
    let m = g.S.Sheet.meaning c.args.sheet.now in
    let l = c.in_ok-words.field-0 in
    let n = c.marks.result in
    let e = c.marks.ensures in
    let is = c.in_ok-words.ensures in
    let long : length l.words ≡ 4096 = search rules in
    let room : l.len ≤ length l.words = omega (arith, l.room) in record {
      few = omega (arith, m.few, e);
      room = l.room;
      each = made_each l.words l.len n m.marks m.agrees e m.few room is l.blank;
      rising = made_rising l.words l.len n m.marks m.agrees e m.few room is l.blank;
    }

pub returns : goal.returns
returns g c =
    let m = g.S.Sheet.meaning c.args.sheet.now in
    let l = c.in_ok-words.field-0 in
    let n = c.marks.result in
    let e = c.marks.ensures in
    let is = c.in_ok-words.ensures in
    let long : length l.words ≡ 4096 = search rules in
    let room : l.len ≤ length l.words = omega (arith, l.room) in
    record {
      fits = omega (arith, l.room, made_fits l.words l.len n m.marks m.agrees e m.few room is l.blank);
      marks = e;
      agrees =
          made_agrees l.words l.len n m.marks m.agrees e m.few room is l.blank m.symmetric m.irreflexive m.inside;
      front = is;
      fresh = made_fresh l.words l.len n m.marks m.agrees e m.few room is l.blank;
    }
