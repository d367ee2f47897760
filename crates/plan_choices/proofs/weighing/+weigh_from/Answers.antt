-- `weigh_from` meets its contract: the steps left fall with each call of itself. A sum is made of the sums below the outcomes of the choice;
-- the loop's invariant is the sum below the first o of them (`runs`).
use native.Mathlib.Omega.{arith}
use Rattle.plan_choices.proofs.OutcomeSummed.{state_here, leaf_readable, weigh_done, weigh_choice, runs_none, BeforeOutcome, within, offered, known_here, here_next, runs_fit, runs_more}
use Rattle.plan_choices.proofs.weighing.+weigh_from.Goals as goal

pub worth-requires : goal.worth-requires
worth-requires t c =
    let S = c in
    leaf_readable S.args.spot.a S.args.spot.d S.requires.ready S.requires.here.0 S.requires.d_value.0 S.requires.d_value.1 c.if-spot-eq0.true

pub returns-then-spot-eq0 : goal.returns-then-spot-eq0
returns-then-spot-eq0 t c =
    let S = c in
    weigh_done S.args.spot.a S.args.spot.d S.requires.ready S.requires.here.0 S.requires.d_value.0 S.requires.d_value.1 c.if-spot-eq0.true S.args.choices.now S.args.spot.at c.worth.result S.requires.here.1 c.worth.ensures

pub row_of-row-requires : goal.row_of-row-requires
row_of-row-requires t c = let S = c in (S.requires.ready.prepared, state_here S.args.spot.a S.args.spot.d S.requires.ready S.requires.here.0)

pub overflow_cast-i : goal.overflow_cast-i
overflow_cast-i t c = record { fits = omega (arith, c.row_of-row.ensures.place) }

pub after-next-requires : goal.after-next-requires
after-next-requires t c = c.requires.here.1

pub loop-o-init : goal.loop-o-init
loop-o-init t c =
    let S = c in
    runs_none S.args.spot.a S.args.spot.d S.requires.ready S.requires.here.0 S.args.choices.now c.after-next.result c.row_of-row.result.at c.after-next.ensures.0

pub overflow_cast-o : goal.overflow_cast-o
overflow_cast-o t c =
    let turn : let S = c.args in
    let L = c.loop-o in
    let row = c.row_of-row.result in
    BeforeOutcome S.m.now S.q.now S.spot.start S.spot.a S.spot.d S.truth.now S.cone.now S.trail.now S.gains.now S.v.now S.spot.h S.spot.s S.spot.k S.choices.now
    c.after-next.result row.at row.count L.o L.trail L.gains L.v L.sum L.next = let S = c in
    record {
      ready = S.requires.ready;
      here = S.requires.here.0;
      left = c.if-spot-eq0.false;
      offers = c.row_of-row.ensures.offers;
      more = c.loop-o-test.true;
      ran = c.loop-o.invariant;
    } in
    record { fits = omega (arith, (within turn).2) }

pub step-t-requires : goal.step-t-requires
step-t-requires t c =
    let turn : let S = c.args in
    let L = c.loop-o in
    let row = c.row_of-row.result in
    BeforeOutcome S.m.now S.q.now S.spot.start S.spot.a S.spot.d S.truth.now S.cone.now S.trail.now S.gains.now S.v.now S.spot.h S.spot.s S.spot.k S.choices.now
    c.after-next.result row.at row.count L.o L.trail L.gains L.v L.sum L.next = let S = c in
    record {
      ready = S.requires.ready;
      here = S.requires.here.0;
      left = c.if-spot-eq0.false;
      offers = c.row_of-row.ensures.offers;
      more = c.loop-o-test.true;
      ran = c.loop-o.invariant;
    } in
    let T = turn in record { ready = T.ready; offered = offered T; knows = known_here T }

pub overflow_add-on : goal.overflow_add-on
overflow_add-on t c =
    let turn : let S = c.args in
    let L = c.loop-o in
    let row = c.row_of-row.result in
    BeforeOutcome S.m.now S.q.now S.spot.start S.spot.a S.spot.d S.truth.now S.cone.now S.trail.now S.gains.now S.v.now S.spot.h S.spot.s S.spot.k S.choices.now
    c.after-next.result row.at row.count L.o L.trail L.gains L.v L.sum L.next = let S = c in
    record {
      ready = S.requires.ready;
      here = S.requires.here.0;
      left = c.if-spot-eq0.false;
      offers = c.row_of-row.ensures.offers;
      more = c.loop-o-test.true;
      ran = c.loop-o.invariant;
    } in
    record { fits = omega (arith, turn.here.steps) }

pub overflow_sub-on : goal.overflow_sub-on
overflow_sub-on t c =
    let turn : let S = c.args in
    let L = c.loop-o in
    let row = c.row_of-row.result in
    BeforeOutcome S.m.now S.q.now S.spot.start S.spot.a S.spot.d S.truth.now S.cone.now S.trail.now S.gains.now S.v.now S.spot.h S.spot.s S.spot.k S.choices.now
    c.after-next.result row.at row.count L.o L.trail L.gains L.v L.sum L.next = let S = c in
    record {
      ready = S.requires.ready;
      here = S.requires.here.0;
      left = c.if-spot-eq0.false;
      offers = c.row_of-row.ensures.offers;
      more = c.loop-o-test.true;
      ran = c.loop-o.invariant;
    } in
    omega (arith, turn.left)

pub weigh_from-r-requires : goal.weigh_from-r-requires
weigh_from-r-requires t c =
    let turn : let S = c.args in
    let L = c.loop-o in
    let row = c.row_of-row.result in
    BeforeOutcome S.m.now S.q.now S.spot.start S.spot.a S.spot.d S.truth.now S.cone.now S.trail.now S.gains.now S.v.now S.spot.h S.spot.s S.spot.k S.choices.now
    c.after-next.result row.at row.count L.o L.trail L.gains L.v L.sum L.next = let S = c in
    record {
      ready = S.requires.ready;
      here = S.requires.here.0;
      left = c.if-spot-eq0.false;
      offers = c.row_of-row.ensures.offers;
      more = c.loop-o-test.true;
      ran = c.loop-o.invariant;
    } in
    let S = c in
    let T = turn in
    (omega (arith, T.left, S.decreases), (T.ready, (S.requires.d_value, (here_next T c.step-t.ensures, T.ran.inside))))

pub plus-sum-requires : goal.plus-sum-requires
plus-sum-requires t c =
    let turn : let S = c.args in
    let L = c.loop-o in
    let row = c.row_of-row.result in
    BeforeOutcome S.m.now S.q.now S.spot.start S.spot.a S.spot.d S.truth.now S.cone.now S.trail.now S.gains.now S.v.now S.spot.h S.spot.s S.spot.k S.choices.now
    c.after-next.result row.at row.count L.o L.trail L.gains L.v L.sum L.next = let S = c in
    record {
      ready = S.requires.ready;
      here = S.requires.here.0;
      left = c.if-spot-eq0.false;
      offers = c.row_of-row.ensures.offers;
      more = c.loop-o-test.true;
      ran = c.loop-o.invariant;
    } in
    let T = turn in
    let w = within T in
    (w.0, w.1, w.2, runs_fit T c.step-t.ensures c.weigh_from-r.ensures)

pub loop-o-preserved : goal.loop-o-preserved
loop-o-preserved t c =
    let turn : let S = c.args in
    let L = c.loop-o in
    let row = c.row_of-row.result in
    BeforeOutcome S.m.now S.q.now S.spot.start S.spot.a S.spot.d S.truth.now S.cone.now S.trail.now S.gains.now S.v.now S.spot.h S.spot.s S.spot.k S.choices.now
    c.after-next.result row.at row.count L.o L.trail L.gains L.v L.sum L.next = let S = c in
    record {
      ready = S.requires.ready;
      here = S.requires.here.0;
      left = c.if-spot-eq0.false;
      offers = c.row_of-row.ensures.offers;
      more = c.loop-o-test.true;
      ran = c.loop-o.invariant;
    } in
    runs_more turn c.step-t.ensures c.weigh_from-r.ensures c.plus-sum.ensures

pub returns : goal.returns
returns t c =
    let S = c in
    let L = c.loop-o in
    let a = c.byte in
    let n = c.after-next in
    weigh_choice S.args.spot.a S.args.spot.d S.requires.ready S.requires.here.0 S.args.choices.now S.args.spot.at a.result n.result c.if-spot-eq0.false a.ensures n.ensures.1 c.row_of-row.ensures (omega arith) L.invariant
