-- `lists::plans_below`: the product of the numbers of plans below the outcomes passed.
use Prim.Native.Nat.{◌<◌}
use native.Mathlib.Omega.{arith}
use mathlib.Core.Path.{◌≡◌, refl, sym, ap, subst, ◌∙◌}
use Rattle.logic.specs.Lists.{count_from}
use Rattle.logic.specs.Limits.{multiply}
use Rattle.exact_plan.specs.promises.Search.{ways_below}
use Rattle.exact_plan.proofs.PlansBelow.{way_inside, way_counted, next_way, next_fits, one_way}
use Rattle.exact_plan.proofs.lists.plans_below.Goals as goal

pub returns-then-k-eq0 : goal.returns-then-k-eq0
returns-then-k-eq0 c = let A = c.args in sym (one_way A.m.now A.s A.i A.c c.if-k-eq0.true)

pub loop-o-init : goal.loop-o-init
unfolding multiply count_from
loop-o-init c = refl

pub target-requires : goal.target-requires
target-requires c = let S = c in
    let C = S.requires.2 in
    (S.requires.0, S.requires.1, omega (arith, c.loop-o-test.true, C.outcomes, C.prepared.few_outcomes S.args.s S.args.i C.state C.choice))

pub plans_counted-n-requires : goal.plans_counted-n-requires
plans_counted-n-requires c = let S = c in
    let C = S.requires.2 in
    (C.steps, subst (λ z. z < 32) (sym c.target.ensures) (omega (arith, way_inside C c.loop-o.o c.loop-o-test.true, C.prepared.states)))

pub overflow_mul-n : goal.overflow_mul-n
overflow_mul-n c = let C = c.requires.2 in
    let l = c.loop-o-test.true in
    let o = c.loop-o.o in
    record { fits = omega (arith, next_fits C o l c.loop-o.invariant (way_counted C o l c.target.ensures c.plans_counted-n.ensures)) }

pub loop-o-preserved : goal.loop-o-preserved
loop-o-preserved c = let C = c.requires.2 in
    let l = c.loop-o-test.true in
    let o = c.loop-o.o in
    next_way C o l c.loop-o.invariant (way_counted C o l c.target.ensures c.plans_counted-n.ensures)

pub returns : goal.returns
returns c = let L = c.loop-o in
    let A = c.args in
    let e : L.o ≡ A.c = omega arith in
    L.invariant ∙ ap (ways_below A.m.now A.s A.i A.k) e
