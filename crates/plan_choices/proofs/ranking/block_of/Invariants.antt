use Rattle.plan_choices.proofs.Ways.{Rest}
use Rattle.plan_choices.proofs.ranking.block_of.Given as goal

abbrev pub invariant-loop-at : goal.invariant-loop-at
invariant-loop-at l = Rest l.m l.n l.s l.i l.at l.rest
