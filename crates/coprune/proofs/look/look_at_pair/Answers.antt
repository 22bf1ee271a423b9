use Rattle.std.proofs.Common.{◌≡◌, true, sym, ◌∙◌}
use Rattle.std.proofs.lemmas.Bool.{and_from, true≢false}
use Rattle.coprune.specs.Coprune.{bad}
use Rattle.coprune.proofs.Wearing.{worn_struck}
use Rattle.coprune.proofs.Stepping.{same_room_on}
use Rattle.coprune.proofs.look.look_at_pair.Goals as goal

pub returns : goal.returns
returns g c =
    let m = g.S.Sheet.meaning c.args.sheet.now in
    let m' = g.S.Sheet.meaning c.strike.new.self in
    let i = c.args.pair.a in
    let j = c.args.pair.b in
    let e : bad c.args.limits m i j ≡ true =
    and_from (m.agrees i j) _ (sym c.agree.ensures ∙ c.if-not-agree.false) (sym c.is_offending.ensures ∙ c.if-not-is_offending.false) in
    record {
      strikes = record { means = record { worn = worn_struck c.args.limits m m' i j c.strike.ensures.struck e; said = sym e }; lasts = c.strike.ensures.lasts };
      idle = λ f. absurd (true≢false f);
      room = same_room_on _ _ _ (same_room_on _ _ _ c.note_mark.ensures c.note_mark-2.ensures) c.note_pairs.ensures;
    }
