use Rattle.std.proofs.Common.{◌≡◌, min, max, not, ◌&&◌, eqb, set, refl, ap, ◌∙◌, ap₂, arith}
use Rattle.std.proofs.lemmas.Bool.{true≢false}
use Rattle.fileword.specs.Layout.{kind, pair_word}
use Rattle.pairing.specs.Naming.{names}
use Rattle.tables.proofs.Among.{among_at}
use Rattle.tables.proofs.Changing.{struck_word, each_kept, rising_kept, lasts, gone, pair_struck, pair_there}
use Rattle.tables.proofs.pairs.questions.PairTableStrike.strike.Goals as goal

pub invariant_of-self : goal.invariant_of-self
invariant_of-self c =
    let t = c.args.self.now in
    let at = c.in-Some-find.at in
    let w = c.word_of_pair-word.result in
    let f = c.in-Some-find.ensures in
    let two : kind w ≡ 2 = omega (arith, c.word_of_pair-word.ensures) in record {
      few = t.few;
      room = t.room;
      each = each_kept t.words t.len t.marks at w t.few f.0 f.1 f.2 two t.each t.rising;
      rising = rising_kept t.words t.len t.marks at w t.few f.0 f.1 f.2 two t.each t.rising;
    }

pub returns : goal.returns
returns c =
    let t = c.args.self.now in
    let i = c.args.i in
    let j = c.args.j in
    let at = c.in-Some-find.at in
    let w = c.word_of_pair-word.result in
    let f = c.in-Some-find.ensures in
    let p = c.in-Some.ensures in
    let two : kind w ≡ 2 = omega (arith, c.word_of_pair-word.ensures) in
    let e : w ≡ pair_word (min i j) (max i j) = c.word_of_pair-word.ensures ∙ ap₂ pair_word (omega (arith, p, t.few)) (omega (arith, p, t.few)) in
    record {
      said = pair_there t.marks i j (names t.words) p.0 p.1 p.2 (among_at t.words at (pair_word (min i j) (max i j)) f.1 (f.2 ∙ e));
      struck = record {
        marks = refl;
        agrees =
            pair_struck t.marks i j (names t.words) (names (set t.words at (struck_word w))) t.few p.0 p.1 p.2 (λ p q h k.
            gone t.words t.len t.marks at w t.few f.0 f.1 f.2 two t.each t.rising p q h k
            ∙ ap (λ v. names t.words p q && not (eqb (pair_word p q) v)) e);
      };
      idle = λ e. absurd (true≢false e);
      lasts = lasts t.words t.len t.marks at w t.few f.0 f.1 f.2 two t.each t.rising;
    }
