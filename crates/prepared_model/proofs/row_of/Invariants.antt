use Prim.Native.Nat.{ℕ, ◌<◌}
use mathlib.Core.Path.{◌≡◌}
use Rattle.prepared_model.specs.promises.Rows.{choice_in}
use Rattle.prepared_model.proofs.row_of.Given as goal

abbrev pub invariant-loop-at : goal.invariant-loop-at
invariant-loop-at l = (j : ℕ) → j < l.at → choice_in l.m l.s j ≡ l.a → ⊥
