-- A number shifted down by n bits is 0 where it is below 2 to the n.
use Rattle.models.proofs.EveryCell.{shift_zero}
use Rattle.models.proofs.fields.below_bit.Goals as goal

pub returns : goal.returns
returns c = rw c.from.ensures (shift_zero c.args.v c.args.n)
