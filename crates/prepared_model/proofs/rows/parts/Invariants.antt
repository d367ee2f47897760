use Prim.Native.Nat.{◌*◌, ◌≤◌}
use mathlib.Core.Path.{◌≡◌}
use lib.ListN.{get_or}
use Rattle.blocks.specs.Block.{sum_below}
use Rattle.prepared_model.specs.promises.Rows.{lane}
use Rattle.prepared_model.proofs.rows.parts.Given as goal

abbrev pub invariant-loop-o : goal.invariant-loop-o
invariant-loop-o l = record {
  few : l.sum ≤ 255 * l.o;
  whole : l.sum ≡ sum_below l.o (λ o. get_or l.weights o 0 * lane l.y o);
}
