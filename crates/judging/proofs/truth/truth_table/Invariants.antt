use Rattle.judging.specs.promises.Rows.{Rows}
use Rattle.judging.proofs.truth.truth_table.Given as goal

abbrev pub invariant-loop-j : goal.invariant-loop-j
invariant-loop-j l = Rows l.m l.q l.need l.truth l.scratch l.memo l.j
