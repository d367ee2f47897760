use Rattle.judging.specs.promises.Rows.{RowTold}
use Rattle.judging.proofs.truth.by_table.Given as goal

abbrev pub invariant-loop-s : goal.invariant-loop-s
invariant-loop-s l =
    RowTold l.m l.q l.j l.initial.truth l.truth l.s
