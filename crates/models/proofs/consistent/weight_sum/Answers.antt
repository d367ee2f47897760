use Prim.Native.Nat.{◌+◌}
use native.Mathlib.Omega.{arith}
use native.Mathlib.Numerals.{add-one}
use mathlib.Core.Path.{refl, ap₂}
use Rattle.blocks.specs.Block.{sum_below}
use Rattle.models.proofs.consistent.weight_sum.Goals as goal

pub loop-i-init : goal.loop-i-init
unfolding sum_below
loop-i-init c = (refl, omega arith)

pub loop-i-preserved : goal.loop-i-preserved
unfolding sum_below
loop-i-preserved c = (rw (add-one c.loop-i.i) (ap₂ ◌+◌ c.loop-i.invariant.0 c.weight-sum.ensures.value), omega arith)
