use Rattle.prepared_model.specs.promises.Filled.{Partly}
use Rattle.prepared_model.proofs.rows.sum_choice.Given as goal

abbrev pub invariant-loop-y : goal.invariant-loop-y
invariant-loop-y l = Partly l.i l.y l.initial.row l.row
