-- Where the verdict that is held shows a plan, the choices with which the desk's begin.
use mathlib.Core.Path.{sym, ap, subst, ◌∙◌}
use Rattle.std.specs.Prelude.{Some}
use Rattle.plan_judge.specs.View.{choices_in, verdict_in}
use Rattle.plan_judge.specs.promises.State.{PlanRoot, size_in, shown_size}
use Rattle.models.specs.Layout.{model_of}
use Rattle.questions.specs.Layout.{question_of}
use Rattle.plan_judge.proofs.LoadPutReturn.{said_bytes}
use Rattle.plan_judge.proofs.StateGrounds.{plan_asked}
use Rattle.plan_judge.proofs.WriteReturns.{verdict_is, shown_found}
use Rattle.plan_judge.proofs.shown_size.Goals as goal

pub returns-in_default : goal.returns-in_default
unfolding shown_size
returns-in_default c = sym (ap shown_size (verdict_is c.args.d c.requires _ c.in_default.is))

pub first_size-requires : goal.first_size-requires
first_size-requires c = subst (λ q. PlanRoot (said_bytes c.args.d) q) (sym c.question_bytes-q.ensures) (plan_asked c.args.d c.requires)

pub returns-in-YesPlan : goal.returns-in-YesPlan
returns-in-YesPlan c =
    c.first_size.ensures
    ∙ ap (λ q. size_in (choices_in (model_of (said_bytes c.args.d)) (question_of q) c.args.d.choices)) c.question_bytes-q.ensures
    ∙ shown_found c.args.d c.requires _ _
    ∙ sym (ap shown_size (verdict_is c.args.d c.requires _ (c.in-Some.is ∙ ap Some c.in-YesPlan.is)))

pub returns-in-Yes : goal.returns-in-Yes
unfolding shown_size verdict_in
returns-in-Yes c = sym (ap shown_size (verdict_is c.args.d c.requires _ (c.in-Some.is ∙ ap Some c.in-Yes.is)))

pub returns-in-No : goal.returns-in-No
unfolding shown_size verdict_in
returns-in-No c = sym (ap shown_size (verdict_is c.args.d c.requires _ (c.in-Some.is ∙ ap Some c.in-No.is)))
