use Rattle.last_step.proofs.LateMarks.{Passing}
use Rattle.last_step.proofs.late.late.Given as goal

abbrev pub invariant-loop-i : goal.invariant-loop-i
invariant-loop-i l = Passing l.q l.cone l.marks l.i
