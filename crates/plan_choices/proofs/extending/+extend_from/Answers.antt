-- `extend_from` meets its contract: the steps left fall with each call of itself. A run is a choice and what stands below its outcomes; the loop's
-- invariant is the run below the first o of them (`runs`).
use Prim.Native.Nat.{◌+◌, ◌-◌}
use native.Mathlib.Omega.{arith}
use native.Mathlib.Nat.{min-le_right}
use mathlib.Core.Path.{refl, ◌∙◌}
use lib.ListN.{length-set}
use Rattle.prepared_model.specs.promises.Rows.{step_in, model_in}
use Rattle.prepared_model.proofs.PlacesInRange.{read_range}
use Rattle.plan_choices.specs.promises.Extended.{by_place}
use Rattle.logic.proofs.MostChoices.{most_choices_more, most_choices_step}
use Rattle.plan_choices.proofs.Runs.{runs_none, runs_more, runs_all, extend_none, extend_choice, min_one, placed_less}
use Rattle.plan_choices.proofs.extending.+extend_from.Goals as goal

pub returns-then-n-eq0 : goal.returns-then-n-eq0
returns-then-n-eq0 t c =
    let S = c in
    extend_none (model_in S.args.m.now) (by_place S.args.m.now S.args.places.now) S.args.src.now S.args.d S.args.n S.args.s S.args.from S.args.at S.args.dst.now c.if-n-eq0.true

pub choice-a-requires : goal.choice-a-requires
choice-a-requires t c =
    let S = c in
    (S.requires.prepared.0, S.requires.prepared.1, S.requires.placed.0, omega (arith, c.if-n-eq0.false))

pub bounds-dst-at : goal.bounds-dst-at
bounds-dst-at t c = omega (arith, c.requires.placed, most_choices_step c.args.n c.if-n-eq0.false)

pub row_of-row-requires : goal.row_of-row-requires
row_of-row-requires t c = c.requires.prepared

pub overflow_add-next : goal.overflow_add-next
overflow_add-next t c =
    let S = c in
    omega (arith, S.requires.placed.1, c.min-k.ensures, min_one S.args.d)

pub overflow_add-next-2 : goal.overflow_add-next-2
overflow_add-next-2 t c =
    let S = c in
    omega (arith, S.requires.placed.2, most_choices_step S.args.n c.if-n-eq0.false)

pub loop-o-init : goal.loop-o-init
loop-o-init t c =
    let S = c in
    (runs_none (model_in S.args.m.now) (by_place S.args.m.now S.args.places.now) (step_in S.args.m.now S.args.s c.row_of-row.result.at) (S.args.d - c.min-k.result) (S.args.n - 1) S.args.src.now (S.args.from + c.min-k.result) (S.args.at + 1) _, refl)

pub target-t-requires : goal.target-t-requires
target-t-requires t c =
    let S = c in
    read_range S.requires.prepared.0 S.args.s S.requires.prepared.1 c.row_of-row.result.at c.loop-o.o (c.row_of-row.ensures.offers _ (omega arith))

pub overflow_sub-d : goal.overflow_sub-d
overflow_sub-d t c =
    let S = c in
    omega (arith, c.min-k.ensures, min-le_right 1 S.args.d)

pub extend_from-next-requires : goal.extend_from-next-requires
extend_from-next-requires t c =
    let S = c in
    let L = c.loop-o in
    let row = c.row_of-row in
    let more = most_choices_more (S.args.n - 1) L.o (omega (arith, row.ensures.few)) in
    let r = most_choices_step S.args.n c.if-n-eq0.false in
    let w = S.requires.prepared.0 in (
      omega arith,
      (
        (w, omega (arith, c.target-t.ensures, w.inside S.args.s row.result.at L.o S.requires.prepared.1 (row.ensures.offers L.o (omega arith)))),
        (
          placed_less S.requires.placed.0,
          omega (arith, L.invariant.0.near, c.min-k.ensures, min_one S.args.d),
          omega (arith, L.invariant.0.next, L.invariant.0.size, L.invariant.1, length-set S.args.dst.now S.args.at c.choice-a.result),
        ),
      ),
    )

pub loop-o-preserved : goal.loop-o-preserved
loop-o-preserved t c =
    let S = c in
    let L = c.loop-o in
    let row = c.row_of-row in
    let k = c.min-k.result in
    let ran = c.extend_from-next in
    let more = most_choices_more (S.args.n - 1) L.o (omega (arith, row.ensures.few)) in
    let r = most_choices_step S.args.n c.if-n-eq0.false in (
      runs_more (model_in S.args.m.now) (by_place S.args.m.now S.args.places.now) (step_in S.args.m.now S.args.s row.result.at) (S.args.d - k) (S.args.n - 1) S.args.src.now
          L.o c.target-t.result _ L.next.from ran.result.from _ L.next.at ran.result.at _ L.dst ran.new.dst
          c.target-t.ensures (omega (arith, length-set S.args.dst.now S.args.at c.choice-a.result)) L.invariant.0 ran.ensures,
      ran.auto.dst ∙ L.invariant.1,
    )

pub shape_of-dst : goal.shape_of-dst
shape_of-dst t c =
    let S = c in
    c.loop-o.invariant.1 ∙ length-set S.args.dst.now S.args.at c.choice-a.result

pub returns : goal.returns
returns t c =
    let S = c in
    let L = c.loop-o in
    let row = c.row_of-row in
    let a = c.choice-a in
    let k = c.min-k in
    let from = S.args.from + k.result in
    extend_choice (model_in S.args.m.now) (by_place S.args.m.now S.args.places.now) S.args.src.now S.args.d S.args.n S.args.s S.args.from S.args.at a.result k.result S.args.dst.now L.dst L.next.from L.next.at
    c.if-n-eq0.false (omega (arith, S.requires.placed.2, most_choices_step S.args.n c.if-n-eq0.false)) a.ensures (omega arith)
    (runs_all (model_in S.args.m.now) (by_place S.args.m.now S.args.places.now) (step_in S.args.m.now S.args.s row.result.at) (S.args.d - k.result) (S.args.n - 1) S.args.src.now
    S.args.s a.result row.result.count L.o from L.next.from (S.args.at + 1) L.next.at _ L.dst row.ensures.row row.ensures.few (omega arith) L.invariant.0)
