use Rattle.prepared_question.specs.promises.Replaced.{Pointed}
use Rattle.prepared_question.proofs.prepare_question.Given as goal

abbrev pub invariant-loop-i : goal.invariant-loop-i
invariant-loop-i l = Pointed l.q l.b l.i
