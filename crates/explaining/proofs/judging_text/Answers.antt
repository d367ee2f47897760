-- What is prepared is asked for its limits, and judged.
use native.Mathlib.Omega.{arith}
use mathlib.Core.Path.{◌≡◌, sym, ap, ◌∙◌}
use lib.ListN.{length, replicate}
use Rattle.models.specs.Layout.{model_of}
use Rattle.questions.specs.Layout.{question_of}
use Rattle.prepared_question.proofs.ChildrenBefore.{ordered}
use Rattle.judging.proofs.BothPrepared.{limits_prepared, served}
use Rattle.refusals.proofs.Named.{number_some}
use Rattle.verdict_line.specs.Line.{refused_line}
use Rattle.verdict_line.specs.Reasons.{whynot_says}
use Rattle.verdict_line.proofs.PutInTurn.{put_as}
use Rattle.explaining.proofs.PreparedInput.{asked_by_head, tells_input, judge_refused, judge_passed}
use Rattle.explaining.proofs.TextOfExplanation.{few, told_text}
use borrow.Author.Rules.{rules}
use Rattle.explaining.proofs.judging_text.Goals as goal

pub prepare_model-m-requires : goal.prepare_model-m-requires
prepare_model-m-requires c = c.requires.model_value.0

pub prepare_question-p-requires : goal.prepare_question-p-requires
prepare_question-p-requires c = ordered _ _ _ _ (asked_by_head c.args.model.now c.args.q.now c.prepare_model-m.ensures c.requires.model_value.1)

pub plan_totals-counts-requires : goal.plan_totals-counts-requires
plan_totals-counts-requires c =
    let shared = c.prepare_question-p.ensures _ _ _ (asked_by_head c.args.model.now c.args.q.now c.prepare_model-m.ensures c.requires.model_value.1) in
    (c.prepare_model-m.ensures.prepared, shared.nodes)

pub accept_limits-requires : goal.accept_limits-requires
accept_limits-requires c =
    let shared = c.prepare_question-p.ensures _ _ _ (asked_by_head c.args.model.now c.args.q.now c.prepare_model-m.ensures c.requires.model_value.1) in
    record { prepared = (c.prepare_model-m.ensures.prepared, shared.nodes); counted = c.plan_totals-counts.ensures }

pub returns-in-Err : goal.returns-in-Err
returns-in-Err c =
    let m = c.args.model.now in
    let q = c.args.q.now in
    let shared = c.prepare_question-p.ensures _ _ _ (asked_by_head m q c.prepare_model-m.ensures c.requires.model_value.1) in
    put_as
    (ap refused_line c.number.ensures
    ∙ judge_refused whynot_says (model_of m) (question_of q) (c.in-Err.ensures ∙ limits_prepared m q c.prepare_model-m.ensures shared) (number_some _)) c.refused_line.ensures

pub explained-e-requires : goal.explained-e-requires
explained-e-requires c =
    let m = c.args.model.now in
    let q = c.args.q.now in
    let shared = c.prepare_question-p.ensures _ _ _ (asked_by_head m q c.prepare_model-m.ensures c.requires.model_value.1) in
    let within = sym (c.in_default.ensures ∙ limits_prepared m q c.prepare_model-m.ensures shared) in
    record { served = (served m q c.prepare_model-m.ensures shared within, c.plan_totals-counts.ensures); in_bounds = (omega arith, omega arith) }

pub explained_text-requires : goal.explained_text-requires
explained_text-requires c =
    let m = c.args.model.now in
    let q = c.args.q.now in
    let shared = c.prepare_question-p.ensures _ _ _ (asked_by_head m q c.prepare_model-m.ensures c.requires.model_value.1) in
    let told = tells_input m q c.prepare_model-m.ensures shared c.explained-e.ensures in
    let n : length c.explained-e.new.choices ≡ 1365 = search rules in
    let k : length c.explained-e.new.further ≡ 1365 = search rules in
    (c.requires.in_bounds, few (replicate 1365 0) (replicate 1365 0) told n k)

pub returns : goal.returns
returns c =
    let m = c.args.model.now in
    let q = c.args.q.now in
    let shared = c.prepare_question-p.ensures _ _ _ (asked_by_head m q c.prepare_model-m.ensures c.requires.model_value.1) in
    let within = sym (c.in_default.ensures ∙ limits_prepared m q c.prepare_model-m.ensures shared) in
    let told = tells_input m q c.prepare_model-m.ensures shared c.explained-e.ensures in
    put_as (told_text (replicate 1365 0) (replicate 1365 0) (model_of m) (question_of q) told ∙ judge_passed whynot_says (model_of m) (question_of q) within) c.explained_text.ensures
