-- What is left of the condition has its best total; where nothing is left that total is 0.
use native.Mathlib.Omega.{arith}
use Rattle.judging.proofs.SearchHanded.{bounded_at, lengthened_most, false_condition_truth, peeled_stands, peeled_few_steps, peeled_total_small, peeled_condition_truth}
use Rattle.judging.proofs.plans.plan_led.Goals as goal

pub meets-requires : goal.meets-requires
meets-requires c = let P = c.requires.given in record { bounded = bounded_at P.0 P.1; x_bound = omega arith }

pub returns-in_default : goal.returns-in_default
returns-in_default c = let S = c in
    let P = S.requires.given in record { value = false_condition_truth P.0 P.1 P.2 S.requires.fact.0 c.left.ensures c.peel.ensures c.in_default.is c.meets.ensures; frame = S.requires.fact.2 }

pub best_value-x-requires : goal.best_value-x-requires
best_value-x-requires c = let S = c in
    let P = S.requires.given in
    let N = S.requires.fact in
    let e = c.left.ensures in
    let p = c.peel.ensures in
    let d = c.in-Some.is in record { given = (P.0, peeled_stands P.0 P.1 P.2 N.0 e p d); c_bound = (peeled_few_steps P.0 P.1 P.2 N.0 e p d, N.1, N.2) }

pub over_all_steps-requires : goal.over_all_steps-requires
over_all_steps-requires c = let S = c in
    let P = S.requires.given in record { bounded = (bounded_at P.0 P.1, P.2); value_bound = peeled_total_small P.0 P.1 P.2 S.requires.fact.0 c.left.ensures c.peel.ensures c.in-Some.is c.asks_less-least.ensures c.best_value-x.ensures.value }

pub meets-requires-2 : goal.meets-requires-2
meets-requires-2 c = let P = c.requires.given in record { bounded = bounded_at P.0 P.1; x_bound = lengthened_most (bounded_at P.0 P.1) P.2 c.over_all_steps.ensures }

pub returns : goal.returns
returns c = let S = c in
    let P = S.requires.given in
    let b = c.best_value-x.ensures in record {
      value = peeled_condition_truth P.0 P.1 P.2 S.requires.fact.0 c.left.ensures c.peel.ensures c.in-Some.is c.asks_less-least.ensures b.value
          c.over_all_steps.ensures c.meets-2.ensures;
      frame = b.frame;
    }
