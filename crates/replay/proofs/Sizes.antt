-- The plan held as shown has no more choices than the desk has room for.
use Prim.Native.Nat.{ℕ, zero, suc, ◌≤◌}
use native.Mathlib.Omega.{arith}
use mathlib.Core.Path.{◌≡◌, refl}
use lib.ListN.{length}
use Rattle.logic.specs.promises.Refusal.{refusal}
use Rattle.plan_judge.specs.declared.Desk.{Desk}
use Rattle.plan_judge.specs.View.{view}
use Rattle.plan_judge.specs.promises.State.{held_goal, shown_size}
use Rattle.plan_judge.proofs.WriteReturns.{shown_by, not_shown}

pub shown_few : (d : Desk) → shown_size (view d).verdict ≤ length d.choices
shown_few d = by (refusal (held_goal (view d))) refl
  where
    by : (k : ℕ) → refusal (held_goal (view d)) ≡ k → shown_size (view d).verdict ≤ length d.choices
    by zero e = (shown_by d e).few
    by (suc k) e = omega (arith, not_shown d (λ z. omega arith))
