-- `block_of` meets its contract. The loop's invariant: plan number i stands at `rest` in the blocks of the choices from a on (`Rest`), so one of them
-- holds it. The measure is what is left of the choices.
use native.Mathlib.Omega.{arith}
use Rattle.plan_choices.proofs.Ways.{rest_start, rest_found, rest_passed, rest_none}
use Rattle.plan_choices.proofs.ranking.block_of.Goals as goal

pub choices-c-requires : goal.choices-c-requires
choices-c-requires c = omega (arith, c.requires.prepared.0.states)

pub loop-at-init : goal.loop-at-init
loop-at-init c =
    let S = c in
    rest_start S.args.m.now S.args.n S.args.s S.requires.prepared.0 S.requires.s_bound.0 S.args.i S.requires.s_bound.3

pub ways-size-requires : goal.ways-size-requires
ways-size-requires c =
    let S = c in record { prepared = S.requires.prepared; s_bound = (S.requires.s_bound.0, omega arith, S.requires.s_bound.1, S.requires.s_bound.2) }

pub returns-then-rest-size : goal.returns-then-rest-size
returns-then-rest-size c =
    let S = c in
    let w = c.ways-size.ensures in
    (omega arith, rest_found S.args.m.now S.args.n S.args.s c.loop-at.invariant (omega arith) w.value c.if-rest-size.true w.range)

pub loop-at-preserved : goal.loop-at-preserved
loop-at-preserved c =
    let S = c in
    let L = c.loop-at in
    rest_passed S.args.m.now S.args.n S.args.s L.invariant (omega arith) c.ways-size.ensures.value (omega arith)

pub returns : goal.returns
returns c =
    let S = c in
    absurd (rest_none S.args.m.now S.args.n S.args.s c.loop-at.invariant (omega arith))
