-- The condition looks at most as far ahead as the node has steps, and its total fits over all of them.
use native.Mathlib.Omega.{arith}
use native.Mathlib.Nat.{lt_of_le_of_lt}
use Rattle.bounds.proofs.ProductsFit.{small}
use Rattle.judging.proofs.NodeBounds.{planned}
use Rattle.judging.proofs.SearchHanded.{before, condition_depth, power_fits, lengthened}
use Rattle.judging.proofs.plans.over_all_steps.Goals as goal

pub depth-d-requires : goal.depth-d-requires
depth-d-requires c = let S = c in omega (arith, c.left.ensures, (before S.requires.bounded.0 S.requires.bounded.1).1)

pub overflow_sub-steps : goal.overflow_sub-steps
overflow_sub-steps c = let P = c.requires.bounded in
    let d = condition_depth P.0 P.1 c.left.ensures c.depth-d.ensures in
    omega (arith, (planned P.0 P.1).deep, c.steps.ensures)

pub power-requires : goal.power-requires
power-requires c = let S = c in
    let P = S.requires.bounded in
    let D = small S.args.m.now S.args.q.now S.args.j P.0 in
    (omega (arith, c.denominator.ensures), omega (arith, (planned P.0 P.1).few, c.steps.ensures))

pub overflow_mul-result : goal.overflow_mul-result
overflow_mul-result c = let S = c in
    let P = S.requires.bounded in
    let d = condition_depth P.0 P.1 c.left.ensures c.depth-d.ensures in
    let l = lengthened P.0 P.1 d c.steps.ensures c.denominator.ensures c.power.ensures S.requires.value_bound in
    record { fits = lt_of_le_of_lt l.small (power_fits P.0 P.1) }

pub returns : goal.returns
returns c = let S = c in
    let P = S.requires.bounded in
    let d = condition_depth P.0 P.1 c.left.ensures c.depth-d.ensures in
    lengthened P.0 P.1 d c.steps.ensures c.denominator.ensures c.power.ensures S.requires.value_bound
