use Prim.Native.Nat.{ℕ, ◌<◌}
use mathlib.Core.Path.{◌≡◌}
use lib.ListN.{length, get_or}
use Rattle.prepared_model.proofs.head.Given as goal

abbrev pub invariant-loop-k : goal.invariant-loop-k
invariant-loop-k l = (length l.m ≡ 8704) × ((j : ℕ) → j < l.k → (get_or l.m j 0 ≡ get_or l.b j 0) × (get_or l.m j 0 < 256))
