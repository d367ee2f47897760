use Rattle.prepared_model.specs.promises.Filled.{Summed}
use Rattle.prepared_model.proofs.rows.sum_choices.Given as goal

abbrev pub invariant-loop-i : goal.invariant-loop-i
invariant-loop-i l = Summed l.i l.initial.row l.row
