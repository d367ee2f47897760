use Prim.Native.Nat.{◌*◌, ◌≤◌}
use mathlib.Core.Path.{◌≡◌}
use lib.ListN.{get_or}
use Rattle.prepared_model.specs.promises.Filled.{Chosen, Spelled}
use Rattle.prepared_model.proofs.rows.spell.Given as goal

abbrev pub invariant-loop-k : goal.invariant-loop-k
invariant-loop-k l = record {
  whole : l.n ≡ 4 * get_or l.row 16 0;
  few : get_or l.row 16 0 ≤ 8;
  chosen : Chosen l.b l.s l.row;
  spelled : Spelled l.b l.s l.k l.row;
}
