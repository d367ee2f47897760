-- The table of `limits` is right where the lists read it: a number of plans up to the limit is below the cap.
use Prim.Native.Nat.{ℕ}
use native.Mathlib.Nat.{min-eq_right}
use native.Mathlib.Omega.{arith}
use mathlib.Core.Path.{◌∙◌}
use mathlib.Core.Bool.{true}
use mathlib.Core.List.{List}
use Rattle.logic.specs.Limits.{plan_total}
use Rattle.blocks.specs.Bytes.{Bytes}
use Rattle.prepared_model.specs.promises.Rows.{model_in}
use Rattle.prepared_model.proofs.ReadByPlace.{states_are}
use Rattle.limits.specs.promises.Totals.{total, limit, Totals}
use Rattle.exact_plan.specs.promises.Listing.{Counts}

pub counts_right : (m : Bytes) (table : List ℕ) → Totals true (model_in m) 7 table → Counts m table
unfolding total limit
counts_right m table T =
    record { right = λ n s h k l. T.at n s (omega arith) (rw (states_are m) k) ∙ min-eq_right {n = plan_total (model_in m) n s} {m = 65537} (omega arith) }
