-- Words of which none has a fault, and which have an end, are a good file.
use Rattle.std.proofs.Common.{◌≡◌, ℕ, ◌<◌, ◌≤◌, Bool, false, ◌&&◌, eqb, ltb, List, length, inl, inr, Option}
use Rattle.std.proofs.lemmas.Bool.{cases_lt, le-ltb, and_left, and_right}
use Rattle.fileword.specs.Faults.{faulty, lacks_end}
use Rattle.fileword.specs.Laws.{Spotless}
use Rattle.fileword.specs.declared.files.Form.{Form}
use Rattle.fileword.specs.declared.files.Fault.{Fault}
use Rattle.fileword.specs.declared.files.Fault.TheVariants.{WrongKind, SpareBit, OutOfRange, WrongPair, WrongEnd, NoEnd}

past : (x y : ℕ) (b : Bool) → y ≤ x → (ltb x y && b) ≡ false
past x y b h = and_left (ltb x y) b (le-ltb x y h)

-- a place past the last word has no fault where there is an end
pub past_clean : (wanted : Option Form) (ws : List ℕ) (p : ℕ) → length ws ≤ p → lacks_end ws ≡ false → (f : Fault) → faulty wanted ws p f ≡ false
past_clean wanted ws p h e WrongKind = past p (length ws) _ h
past_clean wanted ws p h e SpareBit = past p (length ws) _ h
past_clean wanted ws p h e OutOfRange = past p (length ws) _ h
past_clean wanted ws p h e WrongPair = past p (length ws) _ h
past_clean wanted ws p h e WrongEnd = past p (length ws) _ h
past_clean wanted ws p h e NoEnd = and_right (eqb p (length ws)) (lacks_end ws) e

pub spotless : (wanted : Option Form) (ws : List ℕ) → ((p : ℕ) → p < length ws → (f : Fault) → faulty wanted ws p f ≡ false) → lacks_end ws ≡ false →
    Spotless wanted ws
spotless wanted ws h e p f = elim (cases_lt p (length ws)) [ inl l ↦ h p l f | inr l ↦ past_clean wanted ws p l e f ]
