-- The sheet's grounds, then those of its choices, which are gathered first.
use native.Mathlib.Omega.{arith}
use mathlib.Core.Path.{sym, ap₂, ◌∙◌}
use Rattle.std.proofs.lemmas.Result.{err_from_is_err_and}
use Rattle.refusals.proofs.Named.{number_some}
use Rattle.logic.specs.promises.Refusal.{refusal}
use Rattle.models.specs.Layout.{model_of}
use Rattle.questions.proofs.AcceptedFacts.{accepted}
use Rattle.sheets.proofs.BlockTests.{sheet_passed}
use Rattle.plan_judge.specs.promises.State.{plan_on}
use Rattle.plan_judge.proofs.CheckReturns.{sheet_refused, gathered}
use Rattle.plan_judge.proofs.accept_sheet.Goals as goal

pub returns-in_err-accept_sheet : goal.returns-in_err-accept_sheet
returns-in_err-accept_sheet c =
    let p = err_from_is_err_and c.from_residual.result c.from_residual.ensures.1 in
    rw (p.1, p.2)
    (sheet_refused (model_of c.args.m.now) c.root_steps-n.result c.start-s.result c.args.b.now _ c.in_err-accept_sheet.ensures (number_some _)
    ∙ ap₂ (λ n s. refusal (plan_on (model_of c.args.m.now) n s c.args.b.now)) c.root_steps-n.ensures c.start-s.ensures)

pub gather-count-requires : goal.gather-count-requires
gather-count-requires c = ((sheet_passed c.root_steps-n.result c.start-s.result c.args.b.now (sym c.in_ok-accept_sheet.ensures)).0, omega arith)

pub accept_plan-requires : goal.accept_plan-requires
accept_plan-requires c = (c.requires.passed, omega (arith, (accepted _ _ _ c.args.q.now c.requires.asked).formed.starts, c.start-s.ensures))

pub returns : goal.returns
returns c =
    c.accept_plan.ensures
    ∙ gathered (model_of c.args.m.now) c.root_steps-n.result c.start-s.result c.args.b.now (sym c.in_ok-accept_sheet.ensures) _ c.gather-count.new.out c.gather-count.result c.gather-count.ensures
    ∙ ap₂ (λ n s. refusal (plan_on (model_of c.args.m.now) n s c.args.b.now)) c.root_steps-n.ensures c.start-s.ensures
