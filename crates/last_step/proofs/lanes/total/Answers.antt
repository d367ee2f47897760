-- The array has the sum for the pattern of the choice's lanes.
use Prim.Native.Nat.{◌*◌, ◌/◌, ◌^◌}
use native.Mathlib.Omega.{arith}
use mathlib.Core.Path.{ap, ◌∙◌}
use Rattle.prepared_model.specs.promises.Rows.{outcomes_in, step_in}
use Rattle.blocks.proofs.Sums.{sum_same}
use Rattle.prepared_model.proofs.BitSums.{lane_low, lane_shr}
use Rattle.last_step.proofs.lanes.total.Goals as goal

pub returns : goal.returns
returns c = let S = c in
    let A = S.args in
    let w = S.requires.0 in
    let few = w.few_outcomes A.s A.i S.requires.1 S.requires.2 in
    c.sum.ensures.value
    ∙ w.sums A.s A.i _ S.requires.1 S.requires.2 (omega arith)
    ∙ sum_same _ _ (outcomes_in A.m.now A.s A.i)
    (λ o l. ap (λ b. (step_in A.m.now A.s A.i o).weight * b) (lane_low (A.x / 2 ^ (4 * A.i)) o (omega arith) ∙ lane_shr A.x (4 * A.i) o))
