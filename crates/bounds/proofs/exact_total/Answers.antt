-- `exact_total`: what is left of the bound when the part below 0 is taken off, divided by q, and one more where that leaves something over; where that
-- part is larger, no total is below the bound or meets it.
use Prim.Native.Nat.{◌-◌, ◌/◌, ◌≤◌, ◌<◌}
use native.Mathlib.Omega.{arith}
use native.Mathlib.Nat.{div-le_self}
use mathlib.Core.Path.{refl}
use Rattle.bounds.proofs.ProductsFit.{sizes, never, exactly, between}
use Rattle.bounds.proofs.exact_total.Goals as goal

pub returns-then-s : goal.returns-then-s
returns-then-s c =
    let S = c in
    let s = c.raised_bound-s.ensures in
    never S.args.m.now S.args.q.now S.args.j S.requires s.its_up s.its_down c.if-s.true

pub nonzero_div-down : goal.nonzero_div-down
nonzero_div-down c =
    let some_part : 0 < c.raised_bound-s.result.parts = let S = c in omega (arith, c.raised_bound-s.ensures.its_parts, (sizes S.args.m.now S.args.q.now S.args.j S.requires).some_part) in
    some_part

pub nonzero_rem-all : goal.nonzero_rem-all
nonzero_rem-all c =
    let some_part : 0 < c.raised_bound-s.result.parts = let S = c in omega (arith, c.raised_bound-s.ensures.its_parts, (sizes S.args.m.now S.args.q.now S.args.j S.requires).some_part) in
    some_part

pub returns-then-all-s-eq0 : goal.returns-then-all-s-eq0
returns-then-all-s-eq0 c =
    let E = c in
    let S = E.before.before.before in
    let s = E.raised_bound-s.ensures in
    exactly S.args.m.now S.args.q.now S.args.j S.requires s.its_up s.its_down s.its_parts (omega (arith, E.if-s.false)) refl c.if-all-s-eq0.true

pub overflow_add-result : goal.overflow_add-result
overflow_add-result c =
    let s = c.raised_bound-s in
    let small : (s.result.up - s.result.down) / s.result.parts ≤ s.result.up - s.result.down = div-le_self (s.result.up - s.result.down) s.result.parts in
    record { fits = omega (arith, small, s.ensures.up_small) }

pub returns : goal.returns
returns c =
    let E = c in
    let S = E.before.before.before in
    let s = E.raised_bound-s.ensures in
    between S.args.m.now S.args.q.now S.args.j S.requires s.its_up s.its_down s.its_parts (omega (arith, E.if-s.false)) refl c.if-all-s-eq0.false
