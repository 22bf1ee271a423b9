use Rattle.std.proofs.Common.{◌≡◌, ℕ, ◌*◌, ◌≤◌, List, ◌++◌, length, take, drop, replicate, refl, ap, ◌∙◌, ap₂, arith, length-take}
use Rattle.sheet.specs.Rows.{row_words}
use Rattle.sheet.proofs.Entering.{begun_nothing}
use Rattle.sheet.proofs.entry.Entry.begin.Goals as goal

-- the part that was cleared, and what stands behind it
cleared_front : (xs zs : List ℕ) (m k : ℕ) → m ≡ k → k ≤ length xs → zs ≡ replicate (length (take m xs)) 0 →
    zs ++ drop m xs ≡ replicate k 0 ++ drop k xs
cleared_front xs zs m k e l h =
    let g : length (take m xs) ≡ k = simp length-take (omega arith) in
    ap₂ (λ ys n. ys ++ drop n xs) (h ∙ ap (λ n. replicate n 0) g) e

pub returns : goal.returns
returns c =
    let ws = c.args.words.now in
    let n = c.args.marks in
    let e = ap (λ r. n * r) c.words_in_row.ensures in
    let room : n * row_words n ≤ length ws = omega (arith, c.if-words-rows.false) in
    let is = cleared_front ws c.fill.new.self _ (n * row_words n) e room (c.fill.ensures.after (λ y h. h)) in
    record {
      begins = record {
        few = c.if-marks-gt128.false;
        room = room;
        marks = refl;
        cleared = is;
        nothing = begun_nothing ws _ n is;
      };
      rows = λ n. (omega arith, λ r h. omega arith);
      lent = refl;
    }
