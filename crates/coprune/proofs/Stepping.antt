-- One look after another: a sheet, and what waits.
use Rattle.std.proofs.Common.{◌≡◌, Bool, false, ◌||◌, refl, ap, ◌∙◌}
use Rattle.std.proofs.lemmas.Bool.{or_parts}
use Rattle.plex.specs.Meaning.{Meaning}
use Rattle.sheet.specs.declared.kinds.Sheet as sheet
use Rattle.sheet.specs.declared.kinds.Strike as strike
use Rattle.coprune.specs.declared.waiting.Waiting.{Waiting}
use Rattle.coprune.specs.Waiting.{SameRoom}
use Rattle.coprune.specs.Coprune.{Kind, Strikes, Steps}

-- a kind of sheets, from what its two bounds say
abbrev pub kind_of : {S : Type 0} → sheet.Ghosts S → strike.Ghosts S → Kind S
kind_of sheets strikes = record { meaning = sheets.meaning; lasting = strikes.lasting }

pub same_room : (w : Waiting) → SameRoom w w
same_room w = record { marks = refl; pairs = refl }

pub same_room_on : (w w' w'' : Waiting) → SameRoom w w' → SameRoom w' w'' → SameRoom w w''
same_room_on w w' w'' p q = record { marks = q.marks ∙ p.marks; pairs = q.pairs ∙ p.pairs }

module _ {S : Type 0} (kind : Kind S) where
  pub strikes_on : (P Q R : Meaning → Meaning → Type 0) (s s' s'' : S) → Strikes kind P s s' → Strikes kind Q s' s'' →
      (P (kind.meaning s) (kind.meaning s') → Q (kind.meaning s') (kind.meaning s'') → R (kind.meaning s) (kind.meaning s'')) → Strikes kind R s s''
  strikes_on P Q R s s' s'' p q on = record { means = on p.means q.means; lasts = q.lasts ∙ p.lasts }

  module _ (P Q R : Bool → Meaning → Meaning → Type 0) (s : S) (w : Waiting) where
    pub steps_none : P false (kind.meaning s) (kind.meaning s) → Steps kind P s w false s w
    steps_none p = record { strikes = record { means = p; lasts = refl }; idle = λ _. (refl, refl); room = same_room w }

    pub steps_on : (a b : Bool) (s' s'' : S) (w' w'' : Waiting) → Steps kind P s w a s' w' → Steps kind Q s' w' b s'' w'' →
        (P a (kind.meaning s) (kind.meaning s') → Q b (kind.meaning s') (kind.meaning s'') → (a ≡ false → kind.meaning s' ≡ kind.meaning s) →
        R (a || b) (kind.meaning s) (kind.meaning s'')) → Steps kind R s w (a || b) s'' w''
    steps_on a b s' s'' w' w'' p q on = record {
      strikes = strikes_on (P a) (Q b) (R (a || b)) s s' s'' p.strikes q.strikes (λ x y. on x y (λ e. ap kind.meaning (p.idle e).0));
      idle = λ e.
          let both = or_parts a b e in
          ((q.idle both.1).0 ∙ (p.idle both.0).0, (q.idle both.1).1 ∙ (p.idle both.0).1);
      room = same_room_on w w' w'' p.room q.room;
    }
