use Rattle.relevance.proofs.MarksPassedOn.{Passing}
use Rattle.relevance.proofs.needed.Given as goal

abbrev pub invariant-loop-k : goal.invariant-loop-k
invariant-loop-k l = Passing l.m l.q l.need l.k
