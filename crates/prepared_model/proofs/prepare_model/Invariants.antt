use Prim.Native.Nat.{ℕ, ◌<◌}
use mathlib.Core.Path.{◌≡◌}
use lib.ListN.{length, get_or}
use Rattle.prepared_model.specs.promises.Filled.{Row}
use Rattle.prepared_model.proofs.RowFilled.{row_at}
use Rattle.prepared_model.proofs.prepare_model.Given as goal

abbrev pub invariant-loop-s : goal.invariant-loop-s
invariant-loop-s l = record {
  long : length l.m ≡ 8704;
  head : (k : ℕ) → k < 512 → (get_or l.m k 0 ≡ get_or l.b k 0) × (get_or l.m k 0 < 256);
  rows : (t : ℕ) → t < l.s → Row l.b t (row_at l.m t);
}
