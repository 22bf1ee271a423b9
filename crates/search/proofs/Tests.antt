-- A search just made is the start that it was made from, and passes the tests of its type.
use Rattle.std.proofs.Common.{◌≡◌, ℕ, List, sym, subst}
use Rattle.plex.specs.Meaning.{Meaning}
use Rattle.tables.specs.Meanings.{bit_meaning}
use Rattle.held.specs.Groups.{held_set}
use Rattle.ceiling.specs.Rules.{Number}
use Rattle.branch.specs.declared.branches.Branch.{Branch}
use Rattle.searching.specs.States.{State}
use Rattle.searching.specs.States as states
use Rattle.searching.specs.Making.{Made}
use Rattle.searching.proofs.Making.{made_sound}
use Rattle.search.specs.declared.searches.making.Start.{Start}
use Rattle.search.specs.View.{opened}
use Rattle.search.specs.Starting.{Starts, opening}
use Rattle.search.proofs.Stacks.{Passes, passes_from}

module _ (m : Meaning) (k : ℕ) (rule : Number) (s : Start) (w : Starts m k s) (bs : List Branch) (count : ℕ) (is : opened bs count ≡ opening s.first_branch) where
  -- the start, with its open branches
  abbrev with_open : List states.Branch → State
  with_open branches = record {
    marks = s.sheet.marks;
    k = k;
    sheet = (bit_meaning s.sheet).agrees;
    table = (bit_meaning s.table).agrees;
    rule = rule;
    top = s.top;
    held = held_set s.held;
    branches = branches;
    taken = 0;
  }

  pub starts_made : Made m k rule (with_open (opened bs count))
  starts_made = subst (λ branches. Made m k rule (with_open branches)) (sym is) (w.made rule)

  pub starts_pass : Passes bs count s.sheet.marks k s.table.rows s.held.set.words
  starts_pass =
      let sound = made_sound m k rule (with_open (opened bs count)) starts_made in
      passes_from bs count s.sheet.marks k s.table.rows s.held.set.words sound.formed.branches sound.formed.stacked (λ i t. (sound.plex i t).0)
