use Rattle.limits.proofs.CappedTotals.{Filled}
use Rattle.limits.proofs.totals.Given as goal

abbrev pub invariant-loop-k : goal.invariant-loop-k
invariant-loop-k g l = Filled g.K.Kind.plans l.m l.table l.k
