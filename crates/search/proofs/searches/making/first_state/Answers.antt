use Rattle.std.proofs.Common.{◌≡◌, ◌<◌, ◌≤◌, [], ◌∷◌, length, sym, ap, ◌∙◌, subst, ap₂, arith}
use Rattle.std.proofs.lemmas.Option.{none-some}
use Rattle.plex.specs.Sets.{card, below}
use Rattle.plex.proofs.Count.{card_le}
use Rattle.plex.specs.Words.{holds}
use Rattle.pruning.specs.Pruned.{agreements, Largest, ends_needed, shared_needed, left_marks}
use Rattle.marks.specs.Members.{members}
use Rattle.marks.proofs.First.{zeros_none}
use Rattle.tables.specs.Meanings.{bit_meaning}
use Rattle.coprune.specs.Answers.{pair_places, Remains}
use Rattle.searching.specs.First.{Peels}
use Rattle.searching.specs.States.{branch}
use Rattle.search.specs.Starting.{opening}
use Rattle.search.proofs.Made.{accepted, group_count, made_open, made_done}
use Rattle.search.proofs.searches.making.first_state.Goals as goal
use Rattle.search.proofs.searches.making.first_state.Goals.{then-floor-first, else-floor-first}

pub returns : goal.returns
returns g c =
    let m = g.S.Sheet.meaning c.args.sheet.now in
    let k = c.args.k in
    let copy = c.copy_of-copy.result in
    let table = c.if-floor-first.table in
    let marks = c.copy_of-copy.ensures.marks in
    let agrees = c.copy_of-copy.ensures.agrees in
    let held = c.of.result.set in
    let top = c.first_group-first.result.top in
    let branches = opening c.if-floor-first.first_branch in
    let same : held ≡ c.first_group-first.result.group = c.of.ensures in
    let first : Peels copy.marks k (bit_meaning copy).agrees (below copy.marks) (members held) top =
    subst (λ s. Peels copy.marks k (bit_meaning copy).agrees (below copy.marks) (members s) top) (sym same) c.first_group-first.ensures in
    let floor : c.count-floor.result ≡ card 128 (members held) = c.count-floor.ensures ∙ ap (λ s. card 128 (members s)) (sym same) in
    elim c.if-floor-first.branch [
      | then-floor-first w ↦
          (let table' = w.co_prune.new.sheet in
          let left' = w.co_prune.new.left in
          let more : card 128 (members held) < top = omega (arith, floor, w.if-floor-first.true) in
          let pairs : pair_places (bit_meaning copy) ≤ length c.args.pair_space.now = omega (arith, ap₂ agreements marks agrees, c.requires.pairs) in
          let remains : Remains (bit_meaning copy) k c.count-floor.result (bit_meaning table') (members left') =
          (accepted (bit_meaning copy) k c.count-floor.result (length c.args.mark_space.now) (length c.args.pair_space.now) w.co_prune.result (bit_meaning table') (members left')
          c.requires.low c.requires.high (omega (arith, marks, c.requires.marks)) pairs (omega (arith, floor, card_le 128 (members held))) w.co_prune.ensures.prunes).1 in
          let largest : Largest copy.marks (ends_needed k (card 128 (members held))) (shared_needed k (card 128 (members held))) (bit_meaning copy).agrees (bit_meaning table).agrees =
          subst (λ f. Largest copy.marks (ends_needed k f) (shared_needed k f) (bit_meaning copy).agrees (bit_meaning table).agrees) floor
          (subst (λ t. Largest copy.marks (ends_needed k c.count-floor.result) (shared_needed k c.count-floor.result) (bit_meaning copy).agrees t)
          (sym (ap (λ t. (bit_meaning t).agrees) w.table-is)) remains.largest) in
          let left : holds w.words.result ≡ left_marks copy.marks (ends_needed k (card 128 (members held))) (bit_meaning table).agrees =
          ap holds w.words.ensures ∙ remains.those
          ∙ ap₂ (λ f t. left_marks copy.marks (ends_needed k f) (bit_meaning t).agrees) floor (sym w.table-is) in
          let opens = ap opening w.first_branch-is ∙ ap₂ (λ x y. branch x y ∷ []) zeros_none left in
          record {
            made = record {
              alike = ap (λ t. t.marks) w.table-is ∙ remains.marks;
              made = λ rule. made_open m k rule copy table held top branches marks agrees first more largest opens;
              closed = λ rule l. absurd (omega (arith, group_count m k rule copy table held top branches marks agrees first));
            };
            idle = λ e. absurd (none-some _ (sym e ∙ w.first_branch-is));
          })
      | else-floor-first w ↦
          (let few : top ≤ card 128 (members held) = omega (arith, floor, w.if-floor-first.false) in
          record {
            made = record {
              alike = ap (λ t. t.marks) w.table-is;
              made = λ rule. made_done m k rule copy table held top branches marks agrees first few w.table-is (ap opening w.first_branch-is);
              closed = λ rule l. w.first_branch-is;
            };
            idle = λ e. (w.mark_space-is, w.pair_space-is);
          })
    ]

pub unwrap-requires : goal.unwrap-requires
unwrap-requires g c =
    let m = bit_meaning c.copy_of-copy.result in
    let floor = c.count-floor.result in
    let pairs : pair_places m ≤ length c.args.pair_space.now = omega (arith, ap₂ agreements c.copy_of-copy.ensures.marks c.copy_of-copy.ensures.agrees, c.requires.pairs) in
    (accepted m c.args.k floor (length c.args.mark_space.now) (length c.args.pair_space.now) c.co_prune.result _ _
    c.requires.low c.requires.high (omega (arith, c.copy_of-copy.ensures.marks, c.requires.marks)) pairs
    (omega (arith, c.count-floor.ensures, card_le 128 (members c.first_group-first.result.group))) c.co_prune.ensures.prunes).0
