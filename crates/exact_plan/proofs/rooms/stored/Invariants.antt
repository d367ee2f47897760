use Prim.Native.Nat.{ℕ, ◌-◌, ◌<◌, ◌≤◌}
use Rattle.exact_plan.specs.promises.Search.{stored_at}
use Rattle.exact_plan.proofs.rooms.stored.Given as goal

abbrev pub invariant-loop-i : goal.invariant-loop-i
invariant-loop-i l =
    (l.most ≤ 65537) × ((j : ℕ) → j < l.i → stored_at l.m l.l.s j (l.l.n - 1) ≤ l.most)
