-- The choices are a plan if its end is theirs; else ground 10, for what is left over or for what the reader found.
use Rattle.std.proofs.lemmas.Result.{err_from_is_err_and}
use Rattle.models.specs.Layout.{model_of}
use Rattle.sheets.proofs.PlanEnds.{plan_refused, plan_whole, plan_over}
use Rattle.sheets.proofs.plans.accept_plan.Goals as goal

pub returns-in_err-plan_end : goal.returns-in_err-plan_end
returns-in_err-plan_end c =
    let p = err_from_is_err_and c.from_residual.result c.from_residual.ensures.1 in
    rw (p.1, p.2) (plan_refused (model_of c.args.m.now) c.args.choices.now c.args.n c.args.s _ c.in_err-plan_end.ensures)

pub returns-then-branch-choices : goal.returns-then-branch-choices
returns-then-branch-choices c = plan_over (model_of c.args.m.now) c.args.choices.now c.args.n c.args.s _ c.in_ok-plan_end.ensures c.if-branch-choices.true

pub returns : goal.returns
returns c = plan_whole (model_of c.args.m.now) c.args.choices.now c.args.n c.args.s _ c.in_ok-plan_end.ensures c.if-branch-choices.false
