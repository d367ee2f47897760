use Rattle.limits.specs.promises.Counted.{Needed}
use Rattle.limits.proofs.rows_needed.Given as goal

abbrev pub invariant-loop-i : goal.invariant-loop-i
invariant-loop-i g l = Needed g.K.Kind.plans l.q l.i l.rows
