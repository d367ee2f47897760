use Rattle.relevance.proofs.ConeListed.{Choosing}
use Rattle.relevance.proofs.chosen.Given as goal

abbrev pub invariant-loop-j : goal.invariant-loop-j
invariant-loop-j l = Choosing l.q l.c l.marks l.j
