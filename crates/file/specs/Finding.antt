-- The first fault of a word. Assumes nothing.
use Rattle.std.specs.Prelude.{◌≡◌, ℕ, ◌<◌, true, false, List, Some, None, Option}
use Rattle.fileword.specs.Faults.{number, faulty}
use Rattle.fileword.specs.declared.files.Fault.{Fault}
use Rattle.fileword.specs.declared.files.FileRefusal.{FileRefusal}
use Rattle.fileword.specs.declared.files.Form.{Form}

-- the word at place p has the fault f and none that is looked for before it, or it has none
abbrev pub Finds : Option Form → List ℕ → ℕ → Option Fault → Type 0
Finds wanted ws p None = (g : Fault) → faulty wanted ws p g ≡ false
Finds wanted ws p (Some f) = ((g : Fault) → number g < number f → faulty wanted ws p g ≡ false) × (faulty wanted ws p f ≡ true)

-- the refusal r is for the word at place p: its fault is the first
pub record RefusedAt (wanted : Option Form) (ws : List ℕ) (p : ℕ) (r : FileRefusal) : Type 0 where
  pub place : r.place ≡ p
  pub first : (g : Fault) → number g < number r.fault → faulty wanted ws p g ≡ false
  pub this : faulty wanted ws p r.fault ≡ true

-- the word at place p is refused, or it has no fault
abbrev pub FindsAt : Option Form → List ℕ → ℕ → Option FileRefusal → Type 0
FindsAt wanted ws p None = (g : Fault) → faulty wanted ws p g ≡ false
FindsAt wanted ws p (Some r) = RefusedAt wanted ws p r
