use mathlib.Core.Path.{◌≡◌}
use Rattle.exact_plan.proofs.JoinedInPlace.{spreading}
use Rattle.exact_plan.proofs.spread.spread.Given as goal

abbrev pub invariant-loop-i : goal.invariant-loop-i
invariant-loop-i l = l.buf ≡ spreading l.initial.buf l.at l.slow l.n l.v l.fast l.c l.w l.i
