use Rattle.std.proofs.Common.{◌≡◌, Some, None, Err, sym, ap, ◌∙◌, arith}
use Rattle.std.specs.Option.{ok_or}
use Rattle.std.proofs.lemmas.Result.{err_from_is_err_and}
use Rattle.tables.specs.Meanings.{bit_meaning}
use Rattle.searching.specs.declared.refusal.SearchRefusal.TheVariants.{NotRisingMarks}
use Rattle.search.proofs.Telling.{held_count}
use Rattle.search.proofs.Offering.{was_read, not_rising, marks_rise, group_size, offered_plex, offered_none}
use Rattle.search.proofs.searches.Search.judge.Goals as goal

pub returns-in_err-group : goal.returns-in_err-group
returns-in_err-group g c =
    let me = c.args.self.now in
    let list = c.args.marks.now in
    let none = c.in_err-group.ensures in
    let p = err_from_is_err_and c.from_residual.result c.from_residual.ensures.1 in
    let refused : c.from_residual.result ≡ Err NotRisingMarks = p.1 ∙ ap Err p.2 ∙ none.value ∙ ap (λ o. ok_or o NotRisingMarks) none.ok_part in
    let read = was_read me.sheet.marks c.marks-all.result list None c.set_of_rising.result c.marks-all.ensures none.ok_part c.set_of_rising.ensures in
    rw refused (omega (arith, c.marks-all.ensures, c.if-marks-all.false), not_rising me.sheet.marks me.sheet.few list read)

pub returns-then-not-is_kplex : goal.returns-then-not-is_kplex
returns-then-not-is_kplex g c =
    let me = c.args.self.now in
    let n = me.sheet.marks in
    let list = c.args.marks.now in
    let group = c.in_ok-group.group in
    let read = was_read n c.marks-all.result list (Some group) c.set_of_rising.result c.marks-all.ensures c.in_ok-group.ensures.ok_part c.set_of_rising.ensures in (
      omega (arith, c.marks-all.ensures, c.if-marks-all.false),
      marks_rise n me.sheet.few list group read,
      offered_none n me.sheet.few list group read me.k (bit_meaning me.sheet).agrees (sym c.is_kplex.ensures ∙ c.if-not-is_kplex.true),
    )

pub returns-then-count : goal.returns-then-count
returns-then-count g c =
    let me = c.args.self.now in
    let n = me.sheet.marks in
    let list = c.args.marks.now in
    let group = c.in_ok-group.group in
    let read = was_read n c.marks-all.result list (Some group) c.set_of_rising.result c.marks-all.ensures c.in_ok-group.ensures.ok_part c.set_of_rising.ensures in (
      omega (arith, c.marks-all.ensures, c.if-marks-all.false),
      marks_rise n me.sheet.few list group read,
      offered_plex n me.sheet.few list group read me.k (bit_meaning me.sheet).agrees (sym c.is_kplex.ensures ∙ c.if-not-is_kplex.false),
      omega (arith, c.count.ensures, c.count-2.ensures, held_count me, group_size n me.sheet.few list group read, c.if-count.true),
    )

pub returns : goal.returns
returns g c =
    let me = c.args.self.now in
    let n = me.sheet.marks in
    let list = c.args.marks.now in
    let group = c.in_ok-group.group in
    let read = was_read n c.marks-all.result list (Some group) c.set_of_rising.result c.marks-all.ensures c.in_ok-group.ensures.ok_part c.set_of_rising.ensures in (
      record {
        short = omega (arith, c.marks-all.ensures, c.if-marks-all.false);
        rising_marks = marks_rise n me.sheet.few list group read;
        plex = offered_plex n me.sheet.few list group read me.k (bit_meaning me.sheet).agrees (sym c.is_kplex.ensures ∙ c.if-not-is_kplex.false);
        larger = omega (arith, c.count.ensures, c.count-2.ensures, held_count me, group_size n me.sheet.few list group read, c.if-count.false);
      },
      read.1,
    )
