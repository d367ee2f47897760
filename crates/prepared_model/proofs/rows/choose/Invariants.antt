use Prim.Native.Nat.{◌≤◌}
use Rattle.prepared_model.specs.promises.Filled.{Listed}
use Rattle.prepared_model.proofs.rows.choose.Given as goal

abbrev pub invariant-loop-a : goal.invariant-loop-a
invariant-loop-a l = (l.i ≤ l.a) × Listed l.b l.s l.a l.i l.row
