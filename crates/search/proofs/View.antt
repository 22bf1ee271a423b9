-- Every search is well formed, by what its type says; and what is well formed passes the tests of the type.
use Rattle.std.proofs.Common.{refl, le_refl}
use Rattle.ceiling.specs.Rules.{Number}
use Rattle.searching.specs.Sound.{Formed}
use Rattle.search.specs.declared.searches.Search.{Search}
use Rattle.search.specs.View.{view}
use Rattle.search.proofs.Stacks.{sound_all, stacked_all}

pub formed : {R : Type 0} (number : R → Number) (s : Search R) → Formed (view number s)
formed number s = record {
  few = s.sheet.few;
  branches = sound_all s.branches s.count s.sheet.marks s.k s.table.rows s.held.set.words
      s.chosens s.candidates s.apart s.plex s.count (le_refl s.count);
  stacked = stacked_all s.branches s.count s.sheet.marks s.k s.table.rows s.held.set.words s.ordered s.count refl;
}
