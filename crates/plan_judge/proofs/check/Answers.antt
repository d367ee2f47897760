-- A ground of the state stands; past it the sheet is checked on the bytes that the desk says it has.
-- The bytes that are cut are those that the desk says it has.
use mathlib.Core.Path.{◌≡◌, sym, ap₂, subst, ◌∙◌}
use lib.ListN.{take}
use Rattle.std.proofs.lemmas.Result.{err_from_is_err_and}
use Rattle.models.specs.Layout.{model_of}
use Rattle.questions.specs.Layout.{question_of}
use Rattle.plan_judge.specs.View.{question_bytes}
use Rattle.plan_judge.specs.promises.Values.{checking}
use Rattle.protocol.specs.promises.Chains.{check_on}
use Rattle.plan_judge.specs.promises.State.{PlanRoot}
use Rattle.plan_judge.proofs.LoadPutReturn.{said_bytes, cut_said}
use Rattle.plan_judge.proofs.StateGrounds.{plan_asked}
use Rattle.plan_judge.proofs.CheckReturns.{check_state, check_past}
use borrow.Author.Rules.{rules}
use Rattle.plan_judge.proofs.check.Goals as goal

pub returns-in_err-plan_asked : goal.returns-in_err-plan_asked
returns-in_err-plan_asked c =
    let p = err_from_is_err_and c.from_residual.result c.from_residual.ensures.1 in
    rw (p.1, p.2) (check_state c.args.d c.args.b.now c.in_err-plan_asked.field-0.0 c.in_err-plan_asked.ensures)

pub check_on-requires : goal.check_on-requires
check_on-requires c =
    let d = c.args.d in
    let cut : take c.blocks_end-n.result d.model ≡ said_bytes d = cut_said d (search rules) c.blocks_end-n.result c.blocks_end-n.ensures in
    subst (λ q. PlanRoot (take c.blocks_end-n.result d.model) q) (sym c.question_bytes.ensures)
    (subst (λ z. PlanRoot z (question_bytes d)) (sym cut) (plan_asked d (sym c.in_ok-plan_asked.ensures)))

pub returns : goal.returns
returns c =
    let d = c.args.d in
    let cut : take c.blocks_end-n.result d.model ≡ said_bytes d = cut_said d (search rules) c.blocks_end-n.result c.blocks_end-n.ensures in
    c.check_on.ensures
    ∙ ap₂ (λ z q. checking (check_on (model_of z) (question_of q) c.args.b.now)) cut c.question_bytes.ensures
    ∙ check_past d c.args.b.now (sym c.in_ok-plan_asked.ensures)
