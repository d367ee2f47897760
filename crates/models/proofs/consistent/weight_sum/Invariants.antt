use Prim.Native.Nat.{◌*◌, ◌≤◌}
use mathlib.Core.Path.{◌≡◌}
use Rattle.blocks.specs.Block.{sum_below}
use Rattle.models.specs.Layout.{outcome_of}
use Rattle.models.proofs.consistent.weight_sum.Given as goal

abbrev pub invariant-loop-i : goal.invariant-loop-i
invariant-loop-i l = (l.sum ≡ sum_below l.i (λ i'. (outcome_of l.b l.s l.a i').weight)) × (l.sum ≤ 255 * l.i)
