-- `ways` meets its contract. The loop's invariant: the product so far, times the ways below the outcomes that are left, is the ways of the choice; so
-- each factor is at most 65,536 and nothing wraps. The measure is what is left of the outcomes.
use Prim.Native.Nat.{◌+◌, ◌*◌, ◌≤◌}
use native.Mathlib.Nat.{one-mul, mul-le-mul}
use native.Mathlib.Omega.{arith}
use mathlib.Core.Path.{ap, ◌∙◌}
use Rattle.prepared_model.proofs.PlacesInRange.{place_range, read_range}
use Rattle.plan_choices.proofs.Ways.{ways_left, ways_most, ways_all, count_here, ways_one_outcome_more, count_end}
use Rattle.plan_choices.proofs.ranking.ways.Goals as goal

pub outcomes-c-requires : goal.outcomes-c-requires
outcomes-c-requires c = place_range c.requires.prepared.0 c.args.s c.requires.s_bound.0 c.args.i c.requires.s_bound.1

pub loop-o-init : goal.loop-o-init
loop-o-init c =
    let S = c in
    one-mul _ ∙ ways_all S.requires.prepared.0 S.args.s S.requires.s_bound.0 S.args.i S.requires.s_bound.1 S.args.n

pub target-t-requires : goal.target-t-requires
target-t-requires c =
    let S = c in
    read_range S.requires.prepared.0 S.args.s S.requires.s_bound.0 S.args.i c.loop-o.o (S.requires.s_bound.1, omega arith)

pub plans_counted-size-requires : goal.plans_counted-size-requires
plans_counted-size-requires c =
    let S = c in
    let w = count_here S.requires.prepared.0 S.args.s S.requires.s_bound.0 S.args.i S.requires.s_bound.1 S.requires.prepared.1 S.args.n (omega arith) S.requires.s_bound.3 c.loop-o.invariant c.target-t.ensures (omega arith) in
    (omega arith, omega (arith, S.requires.prepared.0.states, w.1.state))

pub overflow_mul-size : goal.overflow_mul-size
overflow_mul-size c =
    let S = c in
    let w = count_here S.requires.prepared.0 S.args.s S.requires.s_bound.0 S.args.i S.requires.s_bound.1 S.requires.prepared.1 S.args.n (omega arith) S.requires.s_bound.3 c.loop-o.invariant c.target-t.ensures (omega arith) in
    let few : c.plans_counted-size.result ≤ 65536 = rw (c.plans_counted-size.ensures ∙ w.1.counted) w.1.few in
    omega (arith, mul-le-mul w.0 few)

pub loop-o-preserved : goal.loop-o-preserved
loop-o-preserved c =
    let S = c in
    let L = c.loop-o in
    let w = count_here S.requires.prepared.0 S.args.s S.requires.s_bound.0 S.args.i S.requires.s_bound.1 S.requires.prepared.1 S.args.n (omega arith) S.requires.s_bound.3 L.invariant c.target-t.ensures (omega arith) in
    let e = ways_one_outcome_more S.args.m.now S.args.s S.args.i S.args.n L.size w.1 L.invariant in
    ap (λ v. L.size * v * ways_left S.args.m.now S.args.s S.args.i S.args.n (L.o + 1)) c.plans_counted-size.ensures ∙ e

pub returns : goal.returns
returns c =
    let S = c in
    let L = c.loop-o in
    let e = count_end S.args.m.now S.args.s S.args.i S.args.n L.o L.size (omega arith) L.invariant in record { value = e; range = omega (arith, e, ways_most S.requires.prepared.0 S.args.n S.args.s S.requires.s_bound.0 S.args.i S.requires.s_bound.1) }
