-- So many blocks of 512 bytes.
use Prim.Native.Nat.{◌*◌}
use native.Mathlib.Omega.{arith}
use mathlib.Core.Path.{ap}
use Rattle.plan_judge.proofs.sheet_size.Goals as goal

pub overflow_mul-result : goal.overflow_mul-result
overflow_mul-result c = omega (arith, c.blocks_for.ensures.range)

pub returns : goal.returns
returns c = ap (λ r. 512 * r) c.blocks_for.ensures.value
