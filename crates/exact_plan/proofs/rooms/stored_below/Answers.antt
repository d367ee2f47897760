-- `rooms::stored_below`: two lists whose lengths have a product of up to 65,536 have together one number more at most.
use Prim.Native.Nat.{◌+◌, ◌-◌, ◌<◌}
use native.Mathlib.Omega.{arith}
use mathlib.Core.Path.{◌≡◌, sym, ap₂, subst, ◌∙◌}
use Rattle.exact_plan.specs.promises.Search.{stored_at}
use Rattle.exact_plan.proofs.PlansBelow.{fewer_ways, way_inside, way_counted, last_inside, stored_is, stored_few}
use Rattle.exact_plan.proofs.rooms.stored_below.Goals as goal

pub overflow_sub-last : goal.overflow_sub-last
overflow_sub-last c = let C = c.requires.2 in omega (arith, c.outcomes-last.ensures, last_inside C c.outcomes-last.ensures)

pub plans_below-requires : goal.plans_below-requires
plans_below-requires c = let S = c in
    (S.requires.0, S.requires.1, fewer_ways S.requires.2 (omega (arith, last_inside S.requires.2 c.outcomes-last.ensures)))

pub target-requires : goal.target-requires
target-requires c = let S = c in
    let C = S.requires.2 in
    (S.requires.0, S.requires.1, omega (arith, last_inside C c.outcomes-last.ensures, C.prepared.few_outcomes S.args.s S.args.i C.state C.choice))

pub plans_counted-requires : goal.plans_counted-requires
plans_counted-requires c = let C = c.requires.2 in
    (C.steps, subst (λ z. z < 32) (sym c.target.ensures) (omega (arith, way_inside C (c.outcomes-last.result - 1) (last_inside C c.outcomes-last.ensures), C.prepared.states)))

pub overflow_add-result : goal.overflow_add-result
overflow_add-result c =
    let stored : let S = c in c.plans_below.result + c.plans_counted.result ≡ stored_at S.args.m.now S.args.s S.args.i S.args.k = let C = c.requires.2 in
    let e = c.outcomes-last.ensures in
    ap₂ ◌+◌ c.plans_below.ensures (way_counted C (c.outcomes-last.result - 1) (last_inside C e) c.target.ensures c.plans_counted.ensures)
    ∙ stored_is C e in
    record { fits = omega (arith, stored, stored_few c.requires.2 c.outcomes-last.ensures) }

pub returns : goal.returns
returns c =
    let stored : let S = c in c.plans_below.result + c.plans_counted.result ≡ stored_at S.args.m.now S.args.s S.args.i S.args.k = let C = c.requires.2 in
    let e = c.outcomes-last.ensures in
    ap₂ ◌+◌ c.plans_below.ensures (way_counted C (c.outcomes-last.result - 1) (last_inside C e) c.target.ensures c.plans_counted.ensures)
    ∙ stored_is C e in
    record { value = stored; range = omega (arith, stored, stored_few c.requires.2 c.outcomes-last.ensures) }
