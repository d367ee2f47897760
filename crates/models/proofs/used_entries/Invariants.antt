use Prim.Native.Nat.{ℕ, ◌/◌, ◌%◌, ◌≤◌, ◌<◌}
use mathlib.Core.Path.{◌≡◌}
use lib.ListN.{length, get_or}
use Rattle.models.specs.Layout.{entries}
use Rattle.models.proofs.used_entries.Given as goal

abbrev pub invariant-loop-k : goal.invariant-loop-k
invariant-loop-k l =
    (length l.used ≡ 264) × ((j : ℕ) → j < l.k → get_or l.used j 0 ≡ entries l.b (j / 8) (j % 8)) × ((j : ℕ) → l.k ≤ j → get_or l.used j 0 ≡ 0)
