use Rattle.std.proofs.Common.{◌≡◌, ◌+◌, min, max, sym, ap, ◌∙◌, ap₂, arith, rules}
use Rattle.std.proofs.lemmas.Bool.{ltb-true}
use Rattle.plex.specs.Sets.{card, only, below, ◌∩◌, ◌∖◌}
use Rattle.plex.proofs.Count.{card_le}
use Rattle.marks.specs.Members.{members}
use Rattle.marks.proofs.Lowering.{fewer_without}
use Rattle.tables.specs.Meanings.{bit_meaning}
use Rattle.rule.proofs.Passing.{left_part}
use Rattle.first.specs.Degrees.{degree}
use Rattle.first.proofs.Peeling.{onward_start, not_cut, has_one, degrees_after, onward_empty, onward_stays, onward_leaves}
use Rattle.first.proofs.group.first_group.Goals as goal

pub loop-u-init : goal.loop-u-init
loop-u-init c =
    let m = bit_meaning c.args.table.now in
    let fits : min c.marks.result 128 ≡ m.marks = omega (arith, c.marks.ensures, m.few) in
    let all : members c.below-group.result ≡ below m.marks = c.below-group.ensures ∙ ap below fits in (
      (λ i t. ltb-true i m.marks (sym (ap (λ s. s i) all) ∙ t)),
      search rules,
      c.degrees_in-degrees.ensures,
      onward_start m.marks c.args.k m.agrees (members c.below-group.result) all,
    )

pub returns-then-most-count : goal.returns-then-most-count
returns-then-most-count c =
    let m = bit_meaning c.args.table.now in
    let k = c.args.k in
    let r = members c.loop-u.group in
    let xs = c.loop-u.degrees in
    let u = c.in-Some.u in
    let inv = c.loop-u.invariant in
    let most : c.min-most.result ≡ min (degree xs u + k) (card 128 r) =
    not_cut (degree xs u) k (card 128 r) c.saturating_add.result c.min-most.result c.saturating_add.ensures (c.min-most.ensures ∙ ap (min c.saturating_add.result) c.count.ensures) (card_le 128 r) in
    onward_stays m.marks k m.agrees m.few r inv.0 xs inv.2 c.loop-u.top inv.3 u c.in-Some.ensures c.max-top.result
    (c.max-top.ensures ∙ ap (max c.loop-u.top) most) (omega (arith, c.if-most-count.true, c.count-in-Some.ensures))

pub lower-requires : goal.lower-requires
lower-requires c =
    let m = bit_meaning c.args.table.now in
    let u = c.in-Some.u in
    let l = c.in-Some.ensures in
    has_one m.agrees m.symmetric (members c.loop-u.group) u l.0 l.1 c.loop-u.degrees (members c.and.result)
    (c.and.ensures ∙ ap₂ ◌∩◌ c.without-group.ensures c.neighbours.ensures.set) c.loop-u.invariant.2

pub loop-u-smaller : goal.loop-u-smaller
loop-u-smaller c =
    let l = c.in-Some.ensures in
    fewer_without c.loop-u.group c.without-group.result c.in-Some.u l.0 l.1 c.without-group.ensures

pub loop-u-preserved : goal.loop-u-preserved
loop-u-preserved c =
    let m = bit_meaning c.args.table.now in
    let k = c.args.k in
    let r = members c.loop-u.group in
    let r' = members c.without-group.result in
    let xs = c.loop-u.degrees in
    let u = c.in-Some.u in
    let inv = c.loop-u.invariant in
    let l = c.in-Some.ensures in
    let gone : r' ≡ r ∖ only u = c.without-group.ensures in
    let most : c.min-most.result ≡ min (degree xs u + k) (card 128 r) =
    not_cut (degree xs u) k (card 128 r) c.saturating_add.result c.min-most.result c.saturating_add.ensures (c.min-most.ensures ∙ ap (min c.saturating_add.result) c.count.ensures) (card_le 128 r) in (
      (λ i t. inv.0 i (left_part r r r' u gone (λ j y. y) i t)),
      search rules,
      degrees_after m.agrees m.symmetric r u l.0 l.1 xs c.lower.new.degrees r' (members c.and.result) gone
          (c.and.ensures ∙ ap₂ ◌∩◌ gone c.neighbours.ensures.set) inv.2 c.lower.ensures,
      onward_leaves m.marks k m.agrees m.few r inv.0 xs inv.2 c.loop-u.top inv.3 u l c.max-top.result
          (c.max-top.ensures ∙ ap (max c.loop-u.top) most) r' gone (omega (arith, c.if-most-count.false, c.count-in-Some.ensures)),
    )

pub returns : goal.returns
returns c =
    let m = bit_meaning c.args.table.now in
    let inv = c.loop-u.invariant in
    onward_empty m.marks c.args.k m.agrees m.few (members c.loop-u.group) inv.0 c.loop-u.degrees inv.2 c.loop-u.top inv.3
    c.in_default.ensures
