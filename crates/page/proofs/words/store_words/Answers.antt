use Rattle.std.proofs.Common.{◌≡◌, ℕ, ◌+◌, ◌*◌, ◌/◌, ◌<◌, ◌≤◌, List, [], length, get_or, take, ap, ◌∙◌, subst, arith, w32}
use Rattle.std.specs.Int.{from_le_bytes}
use Rattle.std.proofs.lemmas.List.{take_all}
use Rattle.std.specs.List.{flat_map}
use Rattle.page.specs.Bytes.{word_bytes}
use Rattle.page.proofs.Storing.{stored_more, word_of_chunk}
use Rattle.page.proofs.words.store_words.Goals as goal

pub loop-i-preserved : goal.loop-i-preserved
loop-i-preserved c =
    let bs = c.args.bytes.now in
    let i = c.loop-i.i in
    let w = c.from_le_bytes.result in
    let k : i < length bs / 4 = omega (arith, c.loop-i-test.true, c.as_chunks.ensures.front_len) in
    let l : i < length c.loop-i.words = omega (arith, c.requires.0) in
    let h : 4 * i + 3 < length bs = omega arith in
    let P : List (List ℕ) → Type 0 = λ fours. w ≡ from_le_bytes w32 (get_or fours i []) in
    let e = subst P c.as_chunks.ensures.front c.from_le_bytes.ensures in
    stored_more bs c.loop-i.words i w l h c.loop-i.invariant (word_of_chunk (length bs / 4) i w bs k c.type_inv.bytes e)

pub returns : goal.returns
returns c =
    let bs = c.args.bytes.now in
    let e : length bs / 4 ≡ c.loop-i.i = omega (arith, c.as_chunks.ensures.front_len) in
    let h : length bs ≤ 4 * c.loop-i.i = omega (arith, c.requires.1) in
    ap (λ (m : ℕ). flat_map word_bytes (take m c.loop-i.words)) e ∙ c.loop-i.invariant ∙ take_all (4 * c.loop-i.i) bs h
