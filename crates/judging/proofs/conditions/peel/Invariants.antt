use Rattle.judging.proofs.PeeledMeaning.{Alike}
use Rattle.judging.proofs.conditions.peel.Given as goal

abbrev pub invariant-loop-node : goal.invariant-loop-node
invariant-loop-node l = Alike l.q l.truth l.c l.s l.at

abbrev pub decreases-loop-node : goal.decreases-loop-node
decreases-loop-node l = l.at
