-- A byte times a bit is a byte.
use Prim.Native.Nat.{◌*◌}
use mathlib.Core.Path.{sym, ap, ◌∙◌}
use lib.Bits.{and_mask}
use Rattle.prepared_model.proofs.BitSums.{lane_zero}
use Rattle.prepared_model.proofs.rows.part.Goals as goal

pub returns-clause-value : goal.returns-clause-value
returns-clause-value c = ap (λ b. c.args.w * b) (and_mask c.args.y 1 ∙ sym (lane_zero c.args.y))
