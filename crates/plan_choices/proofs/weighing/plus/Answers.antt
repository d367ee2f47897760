-- `plus`: the sum is asked to fit, and the weight is that of the outcome.
use Prim.Native.Nat.{◌+◌, ◌*◌}
use native.Mathlib.Omega.{arith}
use mathlib.Core.Path.{◌≡◌, ap}
use Rattle.prepared_model.specs.promises.Rows.{step_in}
use Rattle.plan_choices.proofs.weighing.plus.Goals as goal

pub overflow_mul-result : goal.overflow_mul-result
overflow_mul-result c =
    let weighed_is : c.weight.result * c.args.x
    ≡ (step_in c.args.m.now c.args.s c.args.i c.args.o).weight * c.args.x = ap (λ w. w * c.args.x) c.weight.ensures.value in
    record { fits = omega (arith, weighed_is, c.requires.3) }

pub overflow_add-result : goal.overflow_add-result
overflow_add-result c =
    let weighed_is : c.weight.result * c.args.x
    ≡ (step_in c.args.m.now c.args.s c.args.i c.args.o).weight * c.args.x = ap (λ w. w * c.args.x) c.weight.ensures.value in
    record { fits = omega (arith, weighed_is, c.requires.3) }

pub returns : goal.returns
returns c =
    let weighed_is : c.weight.result * c.args.x
    ≡ (step_in c.args.m.now c.args.s c.args.i c.args.o).weight * c.args.x = ap (λ w. w * c.args.x) c.weight.ensures.value in
    ap (λ v. c.args.sum + v) weighed_is
