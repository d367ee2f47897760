use mathlib.Core.Path.{◌≡◌}
use Rattle.exact_plan.proofs.JoinedInPlace.{shifted}
use Rattle.exact_plan.proofs.spread.shift.Given as goal

abbrev pub invariant-loop-i : goal.invariant-loop-i
invariant-loop-i l = l.buf ≡ shifted l.initial.buf l.from l.to l.w l.x l.i
