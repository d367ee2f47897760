-- `state_total` meets its contract. The loop's invariant: the total is that of the first i choices, counted up to the cap.
use Prim.Native.Nat.{ℕ, ◌+◌, min}
use native.Mathlib.Omega.{arith}
use mathlib.Core.Path.{ap, ◌∙◌}
use lib.ListN.{get_or}
use Rattle.logic.specs.Lists.{tabulate}
use Rattle.logic.specs.Quantity.{naturals, sum}
use Rattle.logic.specs.Model.{outcomes}
use Rattle.prepared_model.specs.promises.Rows.{choice_in, model_in}
use Rattle.limits.specs.promises.Totals.{gather, cap}
use Rattle.limits.proofs.CappedTotals.{state_end, small_of, sum_start, sum_next}
use Rattle.limits.proofs.state_total.Goals as goal

pub loop-i-init : goal.loop-i-init
loop-i-init g c =
    let S = c in
    sum_start (cap g.K.Kind.plans) (λ a. gather g.K.Kind.plans (λ o. get_or S.args.table.now (S.args.at + o.target) 0) (outcomes (model_in S.args.m.now) S.args.s a)) (choice_in S.args.m.now S.args.s)

pub overflow_add-total : goal.overflow_add-total
overflow_add-total g c =
    let S = c in
    omega (arith, small_of g.K.Kind.plans _ _ c.loop-i.invariant, small_of g.K.Kind.plans _ _ c.choice_total.ensures)

pub loop-i-preserved : goal.loop-i-preserved
loop-i-preserved g c =
    let S = c in
    let L = c.loop-i in
    sum_next (cap g.K.Kind.plans) (λ a. gather g.K.Kind.plans (λ o. get_or S.args.table.now (S.args.at + o.target) 0) (outcomes (model_in S.args.m.now) S.args.s a)) (choice_in S.args.m.now S.args.s)
    L.i L.total c.choice_total.result _ L.invariant c.choice_total.ensures c.capped-total.ensures

pub returns : goal.returns
returns g c =
    let S = c in
    let m = S.args.m.now in
    let f : ℕ → ℕ = λ t. get_or S.args.table.now (S.args.at + t) 0 in
    c.loop-i.invariant
    ∙ ap (λ n. min (cap g.K.Kind.plans) (sum naturals (λ a. gather g.K.Kind.plans (λ o. f o.target) (outcomes (model_in m) S.args.s a)) (tabulate n (choice_in m S.args.s)))) (omega arith)
    ∙ ap (min (cap g.K.Kind.plans)) (state_end S.requires.prepared.0 g.K.Kind.plans f S.args.s S.requires.prepared.2)
