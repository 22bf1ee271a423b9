-- A run of steps, with the largest budget that is allowed. Assumes nothing.
use Rattle.std.specs.Prelude.{◌≡◌, ℕ, Ok, Err, Result}
use Rattle.searching.specs.declared.refusal.SearchRefusal.{SearchRefusal}
use Rattle.searching.specs.declared.refusal.SearchRefusal.TheVariants.{BudgetOutOfRange}
use Rattle.searching.specs.States.{State}
use Rattle.searching.specs.Calls.{Allowed, Ran}

abbrev pub Runs : ℕ → ℕ → State → Result ℕ SearchRefusal → State → Type 0
Runs largest budget s (Ok count) s' = Allowed largest budget × Ran budget s count s'
Runs largest budget s (Err e) s' = (e ≡ BudgetOutOfRange) × (Allowed largest budget → ⊥) × (s' ≡ s)
