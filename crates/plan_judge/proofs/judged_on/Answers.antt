-- What is prepared of the bytes is asked for its limits, and judged.
use mathlib.Core.Path.{◌≡◌, sym, ap, ◌∙◌}
use native.Mathlib.Omega.{arith}
use Rattle.logic.specs.promises.Refusal.{refusal}
use Rattle.logic.specs.Limits.{limits}
use Rattle.models.specs.Layout.{model_of}
use Rattle.questions.specs.Layout.{question_of}
use Rattle.prepared_question.proofs.ChildrenBefore.{ordered}
use Rattle.judging.specs.promises.Announced.{verdict_code}
use Rattle.judging.proofs.BothPrepared.{asked_prepared, limits_prepared, served}
use Rattle.plan_judge.specs.promises.Values.{choices_code}
use Rattle.plan_judge.proofs.JudgeReturns.{choices_told, ruling_refused, ruling_judged, same_root}
use Rattle.plan_judge.proofs.judged_on.Goals as goal

pub prepare_question-query-requires : goal.prepare_question-query-requires
prepare_question-query-requires c = ordered _ _ _ _ (asked_prepared c.args.m.now c.args.q.now c.prepare_model-model.ensures c.requires.1)

pub plan_totals-counts-requires : goal.plan_totals-counts-requires
plan_totals-counts-requires c =
    let shared = c.prepare_question-query.ensures _ _ _ (asked_prepared c.args.m.now c.args.q.now c.prepare_model-model.ensures c.requires.1) in
    (c.prepare_model-model.ensures.prepared, shared.nodes)

pub accept_limits-requires : goal.accept_limits-requires
accept_limits-requires c =
    let shared = c.prepare_question-query.ensures _ _ _ (asked_prepared c.args.m.now c.args.q.now c.prepare_model-model.ensures c.requires.1) in
    record { prepared = (c.prepare_model-model.ensures.prepared, shared.nodes); counted = c.plan_totals-counts.ensures }

pub judged-requires : goal.judged-requires
judged-requires c =
    let m = c.args.m.now in
    let q = c.args.q.now in
    let shared = c.prepare_question-query.ensures _ _ _ (asked_prepared m q c.prepare_model-model.ensures c.requires.1) in
    let within : refusal (limits (model_of m) (question_of q).nodes) ≡ 0 = sym (c.in-Ok.ensures ∙ limits_prepared m q c.prepare_model-model.ensures shared) in
    record { served = (served m q c.prepare_model-model.ensures shared within, c.plan_totals-counts.ensures); in_bounds = omega arith }

pub returns-in-Ok : goal.returns-in-Ok
returns-in-Ok c =
    let m = c.args.m.now in
    let q = c.args.q.now in
    let shared = c.prepare_question-query.ensures _ _ _ (asked_prepared m q c.prepare_model-model.ensures c.requires.1) in
    let within : refusal (limits (model_of m) (question_of q).nodes) ≡ 0 = sym (c.in-Ok.ensures ∙ limits_prepared m q c.prepare_model-model.ensures shared) in
    let e = same_root m q c.prepare_model-model.ensures shared in
    let o = c.judged.ensures in
    ruling_judged (model_of m) (question_of q) within (o.0 ∙ ap verdict_code e) (o.1 ∙ choices_told _ ∙ ap choices_code e)

pub returns-in-Err : goal.returns-in-Err
returns-in-Err c =
    let m = c.args.m.now in
    let q = c.args.q.now in
    let shared = c.prepare_question-query.ensures _ _ _ (asked_prepared m q c.prepare_model-model.ensures c.requires.1) in
    ruling_refused (model_of m) (question_of q) c.in-Err.r (c.in-Err.ensures ∙ limits_prepared m q c.prepare_model-model.ensures shared)
