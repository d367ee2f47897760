use mathlib.Core.Path.{ap₂}
use Prim.Native.Nat.{◌+◌, ◌*◌}
use Rattle.blocks.specs.Bytes.{u16}
use Rattle.prepared_model.proofs.pair.Goals as goal

pub returns-clause-value : goal.returns-clause-value
unfolding u16
returns-clause-value c = ap₂ (λ x y. x + 256 * y) c.from.ensures c.from-2.ensures
