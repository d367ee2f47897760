use Prim.Native.Nat.{◌/◌, ◌%◌, ◌^◌}
use mathlib.Core.Path.{ap, ◌∙◌}
use lib.Bits.{and_shr, and_mod}
use Rattle.prepared_model.specs.promises.Rows.{lane}
use Rattle.last_step.proofs.lanes.met.Goals as goal

pub returns : goal.returns
unfolding lane
returns c = let x = c.args.x in
    let y = c.args.y in
    record { right = λ i h. ap (λ z. z % 2) (and_shr x y i) ∙ and_mod (x / 2 ^ i) (y / 2 ^ i) 1 }
