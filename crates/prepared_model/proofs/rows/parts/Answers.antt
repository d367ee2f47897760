use Prim.Native.Nat.{◌+◌, ◌*◌}
use native.Mathlib.Numerals.{add-one}
use native.Mathlib.Omega.{arith}
use mathlib.Core.Path.{◌≡◌, refl, ap, ap₂, ◌∙◌}
use lib.ListN.{get_or}
use Rattle.blocks.specs.Block.{sum_below}
use Rattle.prepared_model.specs.promises.Rows.{lane}
use Rattle.prepared_model.proofs.BitSums.{lane_shr}
use Rattle.prepared_model.proofs.rows.parts.Goals as goal

pub loop-o-init : goal.loop-o-init
unfolding sum_below
loop-o-init c = record { few = omega arith; whole = refl }

pub loop-o-preserved : goal.loop-o-preserved
unfolding sum_below
loop-o-preserved c = let L = c.loop-o in
    let e : L.o + 0 ≡ L.o = omega arith in
    let w = get_or c.args.weights.now L.o 0 in
    record {
      few = omega (arith, L.invariant.few, c.part-sum.ensures.range);
      whole = rw add-one (ap₂ ◌+◌ L.invariant.whole (c.part-sum.ensures.value ∙ ap (λ b. w * b) (lane_shr c.args.y L.o 0 ∙ ap (lane c.args.y) e)));
    }

pub returns : goal.returns
unfolding sum_below
returns c = let L = c.loop-o in
    let e : L.o ≡ 4 = omega arith in
    let s : L.sum ≡ sum_below 4 (λ o. get_or c.args.weights.now o 0 * lane c.args.y o) = L.invariant.whole ∙ ap (λ n. sum_below n (λ o. get_or c.args.weights.now o 0 * lane c.args.y o)) e in
    omega (arith, s)
