-- `nearest`: the table has the number of plans, and each room has 282 numbers beside as many.
use native.Mathlib.Omega.{arith}
use Rattle.exact_plan.proofs.ListsWritten.{state_small}
use Rattle.exact_plan.proofs.FirstPlace.{counted}
use Rattle.exact_plan.proofs.nearest.nearest.Goals as goal

pub plans_counted-all-requires : goal.plans_counted-all-requires
plans_counted-all-requires c = let S = c in (S.requires.d_le_n.1, state_small S.requires.given S.requires.given.ready.state)

pub nearest_in_room-requires : goal.nearest_in_room-requires
nearest_in_room-requires c = let S = c in
    let P = S.requires.d_le_n in record { given = S.requires.given; d_le_n = (P.0, P.1, P.2, omega (arith, counted S.requires.given S.args.l.n P.1 P.2 c.plans_counted-all.ensures), omega arith) }

pub nearest_in_room-requires-then-all-le-SOME : goal.nearest_in_room-requires-then-all-le-SOME
nearest_in_room-requires-then-all-le-SOME c = let S = c in
    let P = S.requires.d_le_n in record { given = S.requires.given; d_le_n = (P.0, P.1, P.2, omega (arith, counted S.requires.given S.args.l.n P.1 P.2 c.plans_counted-all.ensures), omega arith) }

pub nearest_in_room-requires-2 : goal.nearest_in_room-requires-2
nearest_in_room-requires-2 c = let S = c in
    let P = S.requires.d_le_n in record { given = S.requires.given; d_le_n = (P.0, P.1, P.2, omega (arith, counted S.requires.given S.args.l.n P.1 P.2 c.plans_counted-all.ensures), omega arith) }
