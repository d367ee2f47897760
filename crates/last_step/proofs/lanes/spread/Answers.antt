use borrow.Author.Tests.{ne_eqb}
use Rattle.logic.specs.Bound.{one_if}
use Rattle.prepared_model.proofs.BitSums.{lane_none, lane_ones}
use Rattle.last_step.proofs.lanes.spread.Goals as goal

pub returns-then-t-eq0 : goal.returns-then-t-eq0
unfolding one_if
returns-then-t-eq0 c = record { right = λ i h. rw c.if-t-eq0.true (lane_none i) }

pub returns-else-t-eq0 : goal.returns-else-t-eq0
unfolding one_if
returns-else-t-eq0 c = record { right = λ i h. rw (ne_eqb c.args.t 0 c.if-t-eq0.false) (lane_ones 32 i h) }
