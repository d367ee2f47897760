use Rattle.best_plan.proofs.LastStepBest.{Ending}
use Rattle.best_plan.proofs.last_choice.Given as goal

abbrev pub invariant-loop-i : goal.invariant-loop-i
invariant-loop-i l = Ending l.least l.m l.s l.x l.i l.value l.place
