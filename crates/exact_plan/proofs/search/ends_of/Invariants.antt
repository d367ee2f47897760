use Rattle.exact_plan.proofs.SumsByRows.{Bounded}
use Rattle.exact_plan.proofs.search.ends_of.Given as goal

abbrev pub invariant-loop-y : goal.invariant-loop-y
invariant-loop-y l = Bounded l.list l.low l.high l.y-index
