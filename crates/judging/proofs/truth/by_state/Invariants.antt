use Prim.Native.Nat.{◌+◌, ◌*◌, ◌≤◌}
use mathlib.Core.Path.{◌≡◌}
use lib.ListN.{length}
use Rattle.judging.specs.promises.Truth.{Right}
use Rattle.judging.specs.promises.Conditions.{Remembers}
use Rattle.judging.proofs.truth.by_state.Given as goal

abbrev pub invariant-loop-k : goal.invariant-loop-k
invariant-loop-k l =
    (l.row ≡ 32 * l.j) × (32 * l.j ≤ l.k) × (l.k ≤ l.row + 32) × (length l.truth ≡ 1280) × Right l.m l.q l.need l.truth l.k × (length l.scratch ≡ 4095) × Remembers l.m l.q l.memo
