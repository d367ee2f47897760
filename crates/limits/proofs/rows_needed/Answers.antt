-- `rows_needed` meets its contract. The loop's invariant: so many rows are enough for the first i nodes.
use native.Mathlib.Omega.{arith}
use Rattle.limits.proofs.RowsForNodes.{needed_more}
use Rattle.limits.proofs.rows_needed.Goals as goal

pub loop-i-preserved : goal.loop-i-preserved
loop-i-preserved g c =
    let S = c in
    let L = c.loop-i in
    needed_more L.invariant (S.requires.0 L.i (omega arith)) c.node_rows.ensures (omega arith, omega arith, λ h g. omega arith)
