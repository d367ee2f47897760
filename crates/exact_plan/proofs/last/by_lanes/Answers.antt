-- `last::by_lanes`: the rows of the choices passed stand one after the other.
use Prim.Native.Nat.{suc, ◌+◌, ◌-◌, ◌*◌, ◌^◌, ◌≤◌, ◌<◌}
use native.Mathlib.Nat.{add-zero}
use native.Mathlib.Omega.{arith}
use mathlib.Core.Path.{◌≡◌, refl, sym, ap, ap₂, subst, ◌∙◌}
use mathlib.Core.List.{◌++◌, flat_map, append-nil}
use lib.ListN.{length, take}
use Rattle.logic.specs.Lists.{count_from, tabulate}
use Rattle.logic.specs.Limits.{plan_total}
use Rattle.prepared_model.specs.promises.Rows.{choices_in, outcomes_in, model_in}
use Rattle.prepared_model.proofs.PlacesInRange.{place_range}
use Rattle.exact_plan.specs.promises.Search.{ways_below, Counted}
use Rattle.exact_plan.specs.promises.Last.{lane_totals}
use Rattle.exact_plan.proofs.PlansBelow.{all_counted}
use Rattle.exact_plan.proofs.LastStepLists.{lanes_fit, lanes_within, lanes_again}
use Rattle.exact_plan.proofs.last.by_lanes.Goals as goal

pub overflow_sub-k : goal.overflow_sub-k
overflow_sub-k c = omega (arith, c.requires.k_nonzero.0)

pub power-more-requires : goal.power-more-requires
power-more-requires c = let S = c in (omega (arith, c.denominator.ensures, S.requires.prepared.0.parts), omega (arith, S.requires.k_nonzero.1))

pub choices-n-requires : goal.choices-n-requires
choices-n-requires c = let S = c in omega (arith, S.requires.prepared.2, S.requires.prepared.0.states)

pub loop-i-init : goal.loop-i-init
unfolding tabulate count_from flat_map
loop-i-init c = let A = c.args in
    (c.choices-n.ensures, omega arith, refl, refl, ap (λ n. take n A.buf.now) (add-zero A.spot.at) ∙ sym (append-nil (take A.spot.at A.buf.now)))

pub outcomes-requires : goal.outcomes-requires
outcomes-requires c =
    let turn : c.loop-i.i < choices_in c.args.m.now c.args.spot.s = omega (arith, c.loop-i.invariant.0, c.loop-i-test.true) in
    let S = c in place_range S.requires.prepared.0 S.args.spot.s S.requires.prepared.2 c.loop-i.i turn

pub plans_below-c-requires : goal.plans_below-c-requires
plans_below-c-requires c =
    let turn : c.loop-i.i < choices_in c.args.m.now c.args.spot.s = omega (arith, c.loop-i.invariant.0, c.loop-i-test.true) in
    let S = c in
    let A = S.args in
    let P = S.requires.k_nonzero in
    let w = S.requires.prepared.0 in
    let g = turn in
    let i = c.loop-i.i in
    let r = place_range w A.spot.s S.requires.prepared.2 i g in
    let z : A.spot.k - 1 + 1 ≡ A.spot.k = omega (arith, P.0) in
    (r.0, r.1, subst (Counted A.m.now A.table.now A.spot.s i (A.spot.k - 1)) (sym c.outcomes.ensures) (all_counted w S.requires.prepared.2 g S.requires.prepared.1 (A.spot.k - 1) (omega (arith, P.1)) (rw z P.2)))

pub overflow_add-spot : goal.overflow_add-spot
overflow_add-spot c =
    let turn : c.loop-i.i < choices_in c.args.m.now c.args.spot.s = omega (arith, c.loop-i.invariant.0, c.loop-i-test.true) in
    let all_plans : let A = c.args in plan_total (model_in A.m.now) (suc (A.spot.k - 1)) A.spot.s ≡ plan_total (model_in A.m.now) A.spot.k A.spot.s = ap (λ n. plan_total (model_in c.args.m.now) n c.args.spot.s) (let z : suc (c.args.spot.k - 1) ≡ c.args.spot.k = omega (arith, c.requires.k_nonzero.0) in z) in
    let within : let A = c.args in
    c.loop-i.len + ways_below A.m.now A.spot.s c.loop-i.i (A.spot.k - 1) (outcomes_in A.m.now A.spot.s c.loop-i.i) ≤ plan_total (model_in A.m.now) A.spot.k A.spot.s = let S = c in
    omega (arith, lanes_within S.requires.prepared.0 S.requires.prepared.2 (S.args.spot.k - 1) S.args.x turn, c.loop-i.invariant.3, all_plans) in
    let S = c in record { fits = omega (arith, within, S.requires.k_nonzero.3, S.well_formed.1.1.0) }

pub total-requires : goal.total-requires
total-requires c =
    let turn : c.loop-i.i < choices_in c.args.m.now c.args.spot.s = omega (arith, c.loop-i.invariant.0, c.loop-i-test.true) in
    let S = c in (S.requires.prepared.0, S.requires.prepared.2, turn)

pub overflow_mul-total : goal.overflow_mul-total
overflow_mul-total c =
    let turn : c.loop-i.i < choices_in c.args.m.now c.args.spot.s = omega (arith, c.loop-i.invariant.0, c.loop-i-test.true) in
    let S = c in
    let A = S.args in
    record { fits = lanes_fit S.requires.prepared.0 S.requires.prepared.2 turn A.x (A.spot.k - 1) (omega (arith, S.requires.k_nonzero.1)) c.total.ensures (c.power-more.ensures ∙ ap (λ z. z ^ (A.spot.k - 1)) c.denominator.ensures) }

pub fill-requires : goal.fill-requires
fill-requires c =
    let turn : c.loop-i.i < choices_in c.args.m.now c.args.spot.s = omega (arith, c.loop-i.invariant.0, c.loop-i-test.true) in
    let all_plans : let A = c.args in plan_total (model_in A.m.now) (suc (A.spot.k - 1)) A.spot.s ≡ plan_total (model_in A.m.now) A.spot.k A.spot.s = ap (λ n. plan_total (model_in c.args.m.now) n c.args.spot.s) (let z : suc (c.args.spot.k - 1) ≡ c.args.spot.k = omega (arith, c.requires.k_nonzero.0) in z) in
    let within : let A = c.args in
    c.loop-i.len + ways_below A.m.now A.spot.s c.loop-i.i (A.spot.k - 1) (outcomes_in A.m.now A.spot.s c.loop-i.i) ≤ plan_total (model_in A.m.now) A.spot.k A.spot.s = let S = c in
    omega (arith, lanes_within S.requires.prepared.0 S.requires.prepared.2 (S.args.spot.k - 1) S.args.x turn, c.loop-i.invariant.3, all_plans) in
    let many : let A = c.args in let i = c.loop-i.i in
    c.plans_below-c.result ≡ ways_below A.m.now A.spot.s i (A.spot.k - 1) (outcomes_in A.m.now A.spot.s i) = let A = c.args in c.plans_below-c.ensures ∙ ap (ways_below A.m.now A.spot.s c.loop-i.i (A.spot.k - 1)) c.outcomes.ensures in
    let S = c in omega (arith, within, many, S.requires.k_nonzero.3, c.loop-i.invariant.2)

pub overflow_add-len : goal.overflow_add-len
overflow_add-len c =
    let turn : c.loop-i.i < choices_in c.args.m.now c.args.spot.s = omega (arith, c.loop-i.invariant.0, c.loop-i-test.true) in
    let all_plans : let A = c.args in plan_total (model_in A.m.now) (suc (A.spot.k - 1)) A.spot.s ≡ plan_total (model_in A.m.now) A.spot.k A.spot.s = ap (λ n. plan_total (model_in c.args.m.now) n c.args.spot.s) (let z : suc (c.args.spot.k - 1) ≡ c.args.spot.k = omega (arith, c.requires.k_nonzero.0) in z) in
    let within : let A = c.args in
    c.loop-i.len + ways_below A.m.now A.spot.s c.loop-i.i (A.spot.k - 1) (outcomes_in A.m.now A.spot.s c.loop-i.i) ≤ plan_total (model_in A.m.now) A.spot.k A.spot.s = let S = c in
    omega (arith, lanes_within S.requires.prepared.0 S.requires.prepared.2 (S.args.spot.k - 1) S.args.x turn, c.loop-i.invariant.3, all_plans) in
    let many : let A = c.args in let i = c.loop-i.i in
    c.plans_below-c.result ≡ ways_below A.m.now A.spot.s i (A.spot.k - 1) (outcomes_in A.m.now A.spot.s i) = let A = c.args in c.plans_below-c.ensures ∙ ap (ways_below A.m.now A.spot.s c.loop-i.i (A.spot.k - 1)) c.outcomes.ensures in
    record { fits = omega (arith, within, many, c.requires.k_nonzero.2) }

pub loop-i-preserved : goal.loop-i-preserved
loop-i-preserved c =
    let turn : c.loop-i.i < choices_in c.args.m.now c.args.spot.s = omega (arith, c.loop-i.invariant.0, c.loop-i-test.true) in
    let all_plans : let A = c.args in plan_total (model_in A.m.now) (suc (A.spot.k - 1)) A.spot.s ≡ plan_total (model_in A.m.now) A.spot.k A.spot.s = ap (λ n. plan_total (model_in c.args.m.now) n c.args.spot.s) (let z : suc (c.args.spot.k - 1) ≡ c.args.spot.k = omega (arith, c.requires.k_nonzero.0) in z) in
    let within : let A = c.args in
    c.loop-i.len + ways_below A.m.now A.spot.s c.loop-i.i (A.spot.k - 1) (outcomes_in A.m.now A.spot.s c.loop-i.i) ≤ plan_total (model_in A.m.now) A.spot.k A.spot.s = let S = c in
    omega (arith, lanes_within S.requires.prepared.0 S.requires.prepared.2 (S.args.spot.k - 1) S.args.x turn, c.loop-i.invariant.3, all_plans) in
    let many : let A = c.args in let i = c.loop-i.i in
    c.plans_below-c.result ≡ ways_below A.m.now A.spot.s i (A.spot.k - 1) (outcomes_in A.m.now A.spot.s i) = let A = c.args in c.plans_below-c.ensures ∙ ap (ways_below A.m.now A.spot.s c.loop-i.i (A.spot.k - 1)) c.outcomes.ensures in
    let S = c in
    let A = S.args in
    let I = c.loop-i.invariant in
    let y = ap₂ ◌*◌ c.total.ensures (c.power-more.ensures ∙ ap (λ z. z ^ (A.spot.k - 1)) c.denominator.ensures) in
    let t = lanes_again S.requires.prepared.0 S.requires.prepared.2 (A.spot.k - 1) A.x turn A.spot.at A.buf.now c.loop-i.buf (omega (arith, within, S.requires.k_nonzero.3, I.2)) I.3 I.4 many y c.fill.ensures in
    (I.0, omega (arith, c.loop-i-test.true), c.fill.auto.buf ∙ I.2, t.0, t.1)

pub shape_of-buf : goal.shape_of-buf
shape_of-buf c = c.loop-i.invariant.2

pub returns : goal.returns
returns c = let L = c.loop-i in
    let A = c.args in
    let e : L.i ≡ choices_in A.m.now A.spot.s = omega (arith, L.invariant.0, L.invariant.1) in record { value = L.invariant.3 ∙ ap (λ n. length (lane_totals A.m.now A.spot.s (A.spot.k - 1) A.x n)) e; frame = L.invariant.4 ∙ ap (λ n. take A.spot.at A.buf.now ++ lane_totals A.m.now A.spot.s (A.spot.k - 1) A.x n) e }
