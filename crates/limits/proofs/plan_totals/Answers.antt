-- `plan_totals` meets its contract: all rows, or none where no node needs one.
use native.Mathlib.Omega.{arith}
use Rattle.limits.proofs.RowsForNodes.{compared, none_counted, all_counted}
use Rattle.limits.proofs.plan_totals.Goals as goal

pub rows_needed-requires : goal.rows_needed-requires
rows_needed-requires c = compared c.requires.1

pub returns-then-rows_needed-eq0 : goal.returns-then-rows_needed-eq0
returns-then-rows_needed-eq0 c = none_counted _ c.rows_needed.ensures (omega arith)

pub returns : goal.returns
returns c = all_counted c.totals-2.ensures
