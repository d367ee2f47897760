use Rattle.questions.specs.promises.Used.{MarksOf}
use Rattle.questions.proofs.used.children_marked.Given as goal

abbrev pub invariant-loop-i : goal.invariant-loop-i
invariant-loop-i l = MarksOf l.b l.i l.marks
