-- The bytes that are cut are those that the desk says it has.
use mathlib.Core.Path.{◌≡◌, sym, ap, ap₂, ◌∙◌}
use lib.ListN.{take}
use Rattle.refusals.specs.Number.{number}
use Rattle.refusals.proofs.Named.{number_some}
use Rattle.logic.specs.promises.Refusal.{refusal}
use Rattle.models.specs.Layout.{state_count, action_count, prop_count, model_of}
use Rattle.models.specs.Grounds.{read_model}
use Rattle.questions.specs.Layout.{question_of}
use Rattle.questions.specs.Grounds.{read_question}
use Rattle.plan_judge.specs.promises.Values.{judge_on, ruling}
use Rattle.plan_judge.proofs.LoadPutReturn.{said_bytes, cut_said}
use Rattle.plan_judge.proofs.StateGrounds.{Both, both}
use Rattle.plan_judge.proofs.JudgeReturns.{judge_refused, ground_state, ruled_refused, ruled_judged}
use borrow.Author.Rules.{rules}
use Rattle.plan_judge.proofs.judge.Goals as goal

pub returns-in-Err : goal.returns-in-Err
returns-in-Err c =
    c.turned_away.ensures ∙ judge_refused c.args.d c.in-Err.r (ground_state c.args.d (number c.in-Err.r) c.in-Err.ensures (number_some c.in-Err.r))

pub judged_on-answer-requires : goal.judged_on-answer-requires
judged_on-answer-requires c =
    let cut : take c.blocks_end-n.result c.args.d.model ≡ said_bytes c.args.d = cut_said c.args.d (search rules) c.blocks_end-n.result c.blocks_end-n.ensures in
    let held : Both c.args.d = both c.args.d (sym c.in_default.ensures) in
    (ap (λ z. refusal (read_model z)) cut ∙ held.passed, ap₂ (λ z q. refusal (read_question (state_count z) (action_count z) (prop_count z) q)) cut c.question_bytes.ensures ∙ held.asked)

pub returns-in-Err-answer : goal.returns-in-Err-answer
returns-in-Err-answer c =
    let d = c.args.d in
    let cut : take c.blocks_end-n.result d.model ≡ said_bytes d = cut_said d (search rules) c.blocks_end-n.result c.blocks_end-n.ensures in
    c.turned_away-in-Err-answer.ensures
    ∙ ruled_refused d (both d (sym c.in_default.ensures)) c.judged_on-answer.result
    (c.judged_on-answer.ensures ∙ ap₂ (λ z q. ruling (judge_on (model_of z) (question_of q))) cut c.question_bytes.ensures) c.in-Err-answer.r c.in-Err-answer.is

pub returns-in-Ok : goal.returns-in-Ok
returns-in-Ok c =
    let d = c.args.d in
    let cut : take c.blocks_end-n.result d.model ≡ said_bytes d = cut_said d (search rules) c.blocks_end-n.result c.blocks_end-n.ensures in
    ruled_judged d (both d (sym c.in_default.ensures)) c.judged_on-answer.result
    (c.judged_on-answer.ensures ∙ ap₂ (λ z q. ruling (judge_on (model_of z) (question_of q))) cut c.question_bytes.ensures) c.in-Ok.v c.in-Ok.is
