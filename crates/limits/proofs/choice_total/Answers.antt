-- `choice_total` meets its contract. The loop's invariant: the total is that of the first o outcomes, counted up to the cap. A target is a state of the model, so it stands in the table's row.
use Prim.Native.Nat.{◌+◌, min}
use native.Mathlib.Omega.{arith}
use mathlib.Core.Path.{ap, ◌∙◌}
use lib.ListN.{get_or}
use Rattle.prepared_model.specs.promises.Rows.{step_in}
use Rattle.limits.specs.promises.Totals.{cap}
use Rattle.limits.proofs.CappedTotals.{gather_start, gather_next, small_of, limit_most}
use Rattle.limits.proofs.choice_total.Goals as goal

pub loop-o-init : goal.loop-o-init
loop-o-init g c =
    let S = c in
    c.none-total.ensures ∙ gather_start g.K.Kind.plans (λ x. get_or S.args.table.now (S.args.at + x.target) 0) (step_in S.args.m.now S.args.s S.args.i)

pub joined-requires : goal.joined-requires
joined-requires g c =
    let S = c in
    (small_of g.K.Kind.plans _ _ c.loop-o.invariant, omega (arith, S.requires.by_index (S.args.at + c.target-t.result), limit_most g.K.Kind.plans))

pub loop-o-preserved : goal.loop-o-preserved
loop-o-preserved g c =
    let S = c in
    let L = c.loop-o in
    gather_next g.K.Kind.plans (λ x. get_or S.args.table.now (S.args.at + x.target) 0) (step_in S.args.m.now S.args.s S.args.i)
    L.o L.total _ _ L.invariant (ap (λ t. get_or S.args.table.now (S.args.at + t) 0) c.target-t.ensures) (c.capped-total.ensures ∙ ap (min (cap g.K.Kind.plans)) c.joined.ensures)
