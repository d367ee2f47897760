-- `search::seek`: the two lists stand one behind the other, and their sums are the totals below the choice.
use Prim.Native.Nat.{◌+◌, ◌-◌}
use native.Mathlib.Omega.{arith}
use mathlib.Core.Path.{refl, sym, subst, ◌∙◌}
use lib.ListN.{length}
use Rattle.logic.specs.Limits.{plan_total}
use Rattle.prepared_model.specs.promises.Rows.{step_in, model_in}
use Rattle.exact_plan.specs.promises.Room.{Room}
use Rattle.prepared_model.proofs.PlacesInRange.{place_range}
use Rattle.exact_plan.proofs.OutcomesJoined.{Place, placed}
use Rattle.exact_plan.proofs.Parts.{range_part}
use Rattle.exact_plan.proofs.ListsWritten.{still}
use Rattle.exact_plan.proofs.ChoicesSearched.{last_there, front_room, slow_fits, last_room, sums_few, sums_asked, choice_searched, choice_back}
use Rattle.exact_plan.proofs.search.seek.Goals as goal

pub outcomes-last-requires : goal.outcomes-last-requires
outcomes-last-requires c = let S = c in place_range S.requires.given.ready.prepared S.args.spot.s S.requires.here.0.inside S.args.i S.requires.here.1

pub overflow_sub-last : goal.overflow_sub-last
overflow_sub-last c =
    let place : Place c.args.m.now c.args.spot.d c.args.spot.s c.args.i c.args.spot.k = placed c.args.i c.args.spot.k c.requires.here.0 c.requires.here.1 in
    let S = c in
    let e = c.outcomes-last.ensures in
    omega (arith, e, last_there S.requires.given place e S.args.spot.at (length S.args.buf.now) S.requires.s_bound.0 S.requires.s_bound.1)

pub front-slow-requires : goal.front-slow-requires
front-slow-requires c =
    let place : Place c.args.m.now c.args.spot.d c.args.spot.s c.args.i c.args.spot.k = placed c.args.i c.args.spot.k c.requires.here.0 c.requires.here.1 in
    let S = c in
    let e = c.outcomes-last.ensures in record { given = S.requires.given; here = (S.requires.here.0, S.requires.here.1, omega (arith, last_there S.requires.given place e S.args.spot.at (length S.args.buf.now) S.requires.s_bound.0 S.requires.s_bound.1), S.requires.here.2); room = front_room S.requires.given place e S.args.spot.at (length S.args.buf.now) S.requires.s_bound.0 S.requires.s_bound.1 }

pub overflow_add-behind : goal.overflow_add-behind
overflow_add-behind c =
    let place : Place c.args.m.now c.args.spot.d c.args.spot.s c.args.i c.args.spot.k = placed c.args.i c.args.spot.k c.requires.here.0 c.requires.here.1 in
    let S = c in
    let e = c.outcomes-last.ensures in
    record { fits = omega (arith, slow_fits S.requires.given place e S.args.spot.at (length S.args.buf.now) S.requires.s_bound.0 S.requires.s_bound.1 refl c.front-slow.ensures, S.well_formed.1.1.1.1.1.1.1.1.1.0) }

pub weighed_below-fast-requires : goal.weighed_below-fast-requires
weighed_below-fast-requires c =
    let place : Place c.args.m.now c.args.spot.d c.args.spot.s c.args.i c.args.spot.k = placed c.args.i c.args.spot.k c.requires.here.0 c.requires.here.1 in
    let S = c in
    let e = c.outcomes-last.ensures in
    let f = c.front-slow in
    let l = last_there S.requires.given place e S.args.spot.at (length S.args.buf.now) S.requires.s_bound.0 S.requires.s_bound.1 in record { given = S.requires.given; here = (still S.requires.here.0 f.ensures, (S.requires.here.1, l), S.requires.here.2); room = subst (Room S.args.spot.k (plan_total (model_in S.args.m.now) S.args.spot.k (step_in S.args.m.now S.args.spot.s S.args.i (c.outcomes-last.result - 1)).target) (S.args.spot.at + f.result)) (sym f.auto.buf) (last_room S.requires.given place e S.args.spot.at (length S.args.buf.now) S.requires.s_bound.0 S.requires.s_bound.1 refl f.ensures) }

pub first_sum-place-requires : goal.first_sum-place-requires
first_sum-place-requires c =
    let place : Place c.args.m.now c.args.spot.d c.args.spot.s c.args.i c.args.spot.k = placed c.args.i c.args.spot.k c.requires.here.0 c.requires.here.1 in
    let S = c in
    let e = c.outcomes-last.ensures in
    let f = c.front-slow in
    let b = c.weighed_below-fast in
    sums_asked S.requires.given place e S.args.spot.at (length S.args.buf.now) S.requires.s_bound.0 S.requires.s_bound.1 refl f.ensures f.auto.buf b.ensures
    (range_part b.new.buf S.args.spot.at f.result) (range_part b.new.buf (S.args.spot.at + f.result) b.result)

pub overflow_mul-result : goal.overflow_mul-result
overflow_mul-result c =
    let place : Place c.args.m.now c.args.spot.d c.args.spot.s c.args.i c.args.spot.k = placed c.args.i c.args.spot.k c.requires.here.0 c.requires.here.1 in
    let S = c in
    let e = c.outcomes-last.ensures in
    let f = c.front-slow in
    let b = c.weighed_below-fast in
    record { fits = omega (arith, sums_few S.requires.given place e S.args.spot.at (length S.args.buf.now) S.requires.s_bound.0 S.requires.s_bound.1 refl f.ensures f.auto.buf b.ensures) }

pub shape_of-buf : goal.shape_of-buf
shape_of-buf c = c.weighed_below-fast.auto.buf ∙ c.front-slow.auto.buf

pub returns : goal.returns
returns c =
    let place : Place c.args.m.now c.args.spot.d c.args.spot.s c.args.i c.args.spot.k = placed c.args.i c.args.spot.k c.requires.here.0 c.requires.here.1 in
    let S = c in
    let e = c.outcomes-last.ensures in
    let f = c.front-slow in
    let b = c.weighed_below-fast in record { value = choice_searched S.requires.given place e S.args.spot.at (length S.args.buf.now) S.requires.s_bound.0 S.requires.s_bound.1 refl f.ensures f.auto.buf b.ensures (range_part b.new.buf S.args.spot.at f.result) (range_part b.new.buf (S.args.spot.at + f.result) b.result) c.first_sum-place.ensures; frame = choice_back S.requires.given place e S.args.spot.at (length S.args.buf.now) S.requires.s_bound.0 S.requires.s_bound.1 refl f.ensures f.auto.buf b.ensures }
