-- A refusal is told on; else the verdict by its cases, and a shown plan by its sheet.
use native.Mathlib.Omega.{arith}
use Rattle.std.proofs.lemmas.Result.{err_from_is_err_and}
use mathlib.Core.Path.{◌≡◌, refl}
use lib.ListN.{length}
use mir.Syntax.{w64}
use mir.ValLaws.{to_z-of_z}
use Rattle.models.specs.Layout.{model_of}
use Rattle.questions.specs.Layout.{question_of}
use borrow.Author.Rules.{rules}
use Rattle.plan_judge.proofs.CSteps.{told_same, refusal_told, told_ground, no_told, yes_told, shown_plan, root_shown, shown_told}
use Rattle.plan_judge.proofs.c_call.told.Goals as goal

pub judged_on-answer-requires : goal.judged_on-answer-requires
judged_on-answer-requires c = c.requires

pub returns-in_err-answer : goal.returns-in_err-answer
returns-in_err-answer c =
    let p = err_from_is_err_and c.from_residual.result c.from_residual.ensures.1 in
    rw (p.1, p.2)
    (refusal_told c.args.sheet.now
    (told_ground (model_of c.args.model.now) (question_of c.args.question.now) c.judged_on-answer.result c.judged_on-answer.ensures (length c.args.sheet.now) c.in_err-answer.field-0.0 c.in_err-answer.was))

pub told_plan-requires : goal.told_plan-requires
told_plan-requires c =
    let r = c.judged_on-answer.result in
    let x = shown_plan (model_of c.args.model.now) (question_of c.args.question.now) r c.judged_on-answer.ensures c.in_ok-answer.field-0 c.in_ok-answer.was c.in-YesPlan.p c.in-YesPlan.is in
    let k : length c.judged_on-answer.result.choices ≡ 1365 = search rules in
    (root_shown c.args.model.now c.args.question.now c.requires.0 c.requires.1 x.plan x.is, record { plan = _; found = x.found }, omega arith)

pub returns-in-No : goal.returns-in-No
returns-in-No c =
    no_told (model_of c.args.model.now) (question_of c.args.question.now) c.judged_on-answer.result c.judged_on-answer.ensures c.in_ok-answer.field-0 c.in_ok-answer.was _ c.in-No.is c.args.sheet.now

pub returns-in-Yes : goal.returns-in-Yes
returns-in-Yes c =
    yes_told (model_of c.args.model.now) (question_of c.args.question.now) c.judged_on-answer.result c.judged_on-answer.ensures c.in_ok-answer.field-0 c.in_ok-answer.was c.in-Yes.is c.args.sheet.now

pub returns-in-YesPlan : goal.returns-in-YesPlan
returns-in-YesPlan c =
    let M = model_of c.args.model.now in
    let Q = question_of c.args.question.now in
    let r = c.judged_on-answer in
    let x = shown_plan M Q r.result r.ensures c.in_ok-answer.field-0 c.in_ok-answer.was c.in-YesPlan.p c.in-YesPlan.is in
    told_same
    (shown_told c.args.model.now c.args.question.now c.requires.0 c.requires.1 r.result r.ensures c.in_ok-answer.field-0 c.in_ok-answer.was x (length c.args.sheet.now) refl)
    (rw (to_z-of_z w64 c.in-YesPlan.p.total (record { sfits = c.struct_told-1.given.0.1 })) at c.told_plan.ensures)
