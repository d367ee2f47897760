-- A ground of the bytes is told on; else what is told of what they hold.
use mathlib.Core.Path.{sym}
use lib.ListN.{length}
use Rattle.std.proofs.lemmas.Result.{err_from_is_err_and}
use Rattle.refusals.proofs.Named.{number_some}
use Rattle.plan_judge.proofs.CSteps.{told_same, refusal_told, chain_model, chain_question, chain_passed}
use Rattle.plan_judge.proofs.c_call.judge_and_write.Goals as goal

pub returns-in_err-accept_model : goal.returns-in_err-accept_model
returns-in_err-accept_model c =
    let p = err_from_is_err_and c.from_residual.result c.from_residual.ensures.1 in
    rw (p.1, p.2)
    (refusal_told c.args.sheet.now
    (chain_model c.args.model.now c.args.question.now (length c.args.sheet.now) c.in_err-accept_model.ensures (number_some _)))

pub returns-in_err-accept_question : goal.returns-in_err-accept_question
returns-in_err-accept_question c =
    let p = err_from_is_err_and c.from_residual-in_err-accept_question.result c.from_residual-in_err-accept_question.ensures.1 in
    rw (p.1, p.2)
    (refusal_told c.args.sheet.now
    (chain_question c.args.model.now c.args.question.now c.in_err-accept_question.ensures (number_some _) (length c.args.sheet.now) (sym c.in_ok-accept_model.ensures)))

pub told-requires : goal.told-requires
told-requires c = (sym c.in_ok-accept_model.ensures, sym c.in_ok-accept_question.ensures)

pub returns : goal.returns
returns c =
    told_same
    (chain_passed c.args.model.now c.args.question.now (length c.args.sheet.now) (sym c.in_ok-accept_model.ensures) (sym c.in_ok-accept_question.ensures))
    c.told.ensures
