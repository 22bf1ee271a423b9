use Rattle.searching.specs.Steps.{Steps}
use Rattle.search.specs.View.{view}
use Rattle.search.proofs.searches.Search.run_within.Given as goal

abbrev pub invariant-loop-taken : goal.invariant-loop-taken
invariant-loop-taken g l = Steps l.taken (view g.R.CeilingRule.number l.initial.self) (view g.R.CeilingRule.number l.self)
