use Rattle.std.proofs.Common.{◌∷◌, sym, refl, ap, ◌∙◌, arith, rules}
use Rattle.plex.specs.Sets.{card, rising}
use Rattle.plex.specs.Words.{holds}
use Rattle.plex.proofs.Count.{card_less}
use Rattle.plex.proofs.Rising.{rising_none, rising_first}
use Rattle.marks.proofs.set.iter.RisingIterator.next.Goals as goal
use Rattle.std.proofs.iter.Next.{firm}

pub returns-in_err-mark-clause-steps : goal.returns-in_err-mark-clause-steps
returns-in_err-mark-clause-steps c =
    let none = c.in_err-mark.ensures in
    rw c.from_residual.ensures (rising_none 128 (holds c.args.self.now.rest.words) (λ i _. ap (λ s. s i) none), none, refl)

pub returns-clause-steps : goal.returns-clause-steps
returns-clause-steps c =
    let s = holds c.args.self.now.rest.words in
    let u = c.in_ok-mark.mark in
    let low = c.in_ok-mark.ensures in
    let e = c.without-self.ensures in
    (rising_first 128 s u low.0 low.1 low.2 ∙ ap (λ t. u ∷ rising 128 t) (sym e), low, e)

pub returns-clause-goes : goal.returns-clause-goes
returns-clause-goes c =
    let m = c.args.self.now.rest in
    let s = holds m.words in
    let u = c.in_ok-mark.mark in
    let low = c.in_ok-mark.ensures in
    let e = c.without-self.ensures in
    firm ((tt, tt, omega (arith, m.counted, c.without-self.result.counted, ap (card 128) e, card_less 128 s u low.0 low.1))) (λ h. search rules)
