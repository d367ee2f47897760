-- `last::one_decides`: with no condition it is false.
use native.Mathlib.Omega.{arith}
use mathlib.Core.Bool.{false≢true}
use Prim.Native.Nat.{◌+◌}
use Rattle.logic.proofs.Tests.{eqb_eq}
use Rattle.exact_plan.proofs.last.one_decides.Goals as goal

pub returns-then-cone-eq0 : goal.returns-then-cone-eq0
returns-then-cone-eq0 c = λ e. absurd (false≢true e)

pub overflow_add-result : goal.overflow_add-result
overflow_add-result c = record { fits = omega (arith, c.requires) }

pub returns : goal.returns
returns c = let A = c.args in λ e. (eqb_eq A.spot.d (A.spot.h + 1) e, omega (arith, c.if-cone-eq0.false))
