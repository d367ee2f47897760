-- `capped` meets its contract: the cap fits since the limit is at most 1,000,000.
use native.Mathlib.Omega.{arith}
use Rattle.limits.proofs.CappedTotals.{limit_most}
use Rattle.limits.proofs.capped.Goals as goal

pub overflow_add-limit : goal.overflow_add-limit
overflow_add-limit g c = omega (arith, c.limit.ensures, limit_most g.K.Kind.plans)
