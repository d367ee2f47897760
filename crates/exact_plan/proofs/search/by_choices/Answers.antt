-- `search::by_choices`: the choices passed do not have x.
use Prim.Native.Nat.{◌+◌, ◌<◌, ◌≤◌}
use native.Mathlib.Omega.{arith}
use mathlib.Core.Path.{refl, subst, ◌∙◌}
use Rattle.exact_plan.specs.promises.Listing.{First}
use lib.ListN.{take}
use Rattle.prepared_model.specs.promises.Rows.{choices_in, model_in}
use Rattle.evaluation.specs.promises.Worth.{worth_on}
use Rattle.exact_plan.specs.promises.Totals.{totals}
use Rattle.exact_plan.proofs.ListsWritten.{state_small}
use Rattle.exact_plan.proofs.ChoicesSearched.{passed_none, passed_few, place_few, choice_found, choice_passed, all_passed, all_counted_there}
use Rattle.exact_plan.proofs.search.by_choices.Goals as goal

pub choices-n-requires : goal.choices-n-requires
choices-n-requires c = let S = c in state_small S.requires.given S.requires.here.0.inside

pub loop-i-init : goal.loop-i-init
loop-i-init c = (refl, passed_none c.requires.here.0)

pub seek-p-requires : goal.seek-p-requires
seek-p-requires c =
    let turn : c.loop-i.i < choices_in c.args.m.now c.args.spot.s = omega arith in
    let S = c in
    let I = c.loop-i.invariant in record { given = S.requires.given; here = (I.1.here, turn, S.requires.here.1); s_bound = (S.requires.s_bound.0, omega (arith, I.0, S.requires.s_bound.1 c.loop-i.i turn)) }

pub overflow_add-result : goal.overflow_add-result
overflow_add-result c =
    let turn : c.loop-i.i < choices_in c.args.m.now c.args.spot.s = omega arith in
    let S = c in
    record { fits = omega (arith, place_few S.requires.given S.requires.s_bound.0 c.loop-i.invariant.1 turn c.seek-p.ensures.value c.in-Some.is) }

pub overflow_add-before : goal.overflow_add-before
overflow_add-before c =
    let turn : c.loop-i.i < choices_in c.args.m.now c.args.spot.s = omega arith in
    let S = c in
    record { fits = omega (arith, passed_few S.requires.given S.requires.s_bound.0 c.loop-i.invariant.1 turn c.seek-p.ensures.value) }

pub loop-i-preserved : goal.loop-i-preserved
loop-i-preserved c =
    let turn : c.loop-i.i < choices_in c.args.m.now c.args.spot.s = omega arith in
    let S = c in
    let I = c.loop-i.invariant in
    let x = c.seek-p in
    (x.auto.buf ∙ I.0, choice_passed S.requires.given S.requires.s_bound.0 I.1 turn x.ensures.value c.in_default.is x.ensures.frame)

pub shape_of-buf : goal.shape_of-buf
shape_of-buf c = c.loop-i.invariant.0

pub returns : goal.returns
returns c =
    let A = c.args in
    let G = c.requires.given in
    let L = c.loop-i in
    let l : choices_in A.m.now A.spot.s ≤ L.i = omega arith in
    subst (First (totals (model_in A.m.now) (A.spot.k + 1) A.spot.s (worth_on A.m.now A.q.now A.spot.start A.spot.a A.spot.d A.cone.now (take A.spot.h A.trail.now))) A.x)
    (all_counted_there G c.requires.s_bound.0 L.invariant.1 l) (all_passed G c.requires.s_bound.0 L.invariant.1 l)

pub returns-in-Some : goal.returns-in-Some
returns-in-Some c =
    let turn : c.loop-i.i < choices_in c.args.m.now c.args.spot.s = omega arith in
    choice_found c.requires.given c.requires.s_bound.0 c.loop-i.invariant.1 turn c.seek-p.ensures.value c.in-Some.is
