-- What the search finds is the best plan of the condition's depth; over all steps its total is the best, and the plan goes on with first choices.
use Rattle.judging.proofs.SearchHanded.{bounded_at, before, condition_depth, condition_stands, condition_few_steps, found_small, found_led, lengthened_most}
use native.Mathlib.Omega.{arith}
use Rattle.judging.proofs.plans.led.Goals as goal

pub searched-r-requires : goal.searched-r-requires
searched-r-requires c = let S = c in
    let P = S.requires.given in
    let e = c.left-c.ensures in record { given = (P.0, condition_stands P.0 P.1 P.2 e); c_bound = (condition_few_steps P.0 P.1 P.2 e, S.requires.fact.1) }

pub over_all_steps-raised-requires : goal.over_all_steps-raised-requires
over_all_steps-raised-requires c = let P = c.requires.given in record { bounded = (bounded_at P.0 P.1, P.2); value_bound = found_small P.0 P.1 P.2 c.left-c.ensures c.asks_less.ensures c.searched-r.ensures }

pub meets-requires : goal.meets-requires
meets-requires c = let P = c.requires.given in record { bounded = bounded_at P.0 P.1; x_bound = lengthened_most (bounded_at P.0 P.1) P.2 c.over_all_steps-raised.ensures }

pub depth-requires : goal.depth-requires
depth-requires c = let P = c.requires.given in
    omega (arith, c.left-c.ensures, (before (bounded_at P.0 P.1) P.2).1)

pub returns : goal.returns
returns c = let P = c.requires.given in
    let e = c.left-c.ensures in
    found_led P.0 P.1 P.2 e c.asks_less.ensures c.searched-r.ensures c.over_all_steps-raised.ensures c.meets.ensures
    (condition_depth (bounded_at P.0 P.1) P.2 e c.depth.ensures)
