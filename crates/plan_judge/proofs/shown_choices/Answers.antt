-- Where a ground of the state applies, no plan is shown.
use mathlib.Core.Path.{sym, ◌∙◌}
use Rattle.refusals.proofs.Named.{err_some, ok_none}
use Rattle.plan_judge.proofs.WriteReturns.{not_shown}
use Rattle.plan_judge.proofs.shown_choices.Goals as goal

pub returns-then-is_err : goal.returns-then-is_err
returns-then-is_err c = not_shown c.args.d (λ z. err_some _ (sym c.is_err.ensures.value ∙ c.if-is_err.true) (c.plan_asked.ensures ∙ z))

pub shown_size-requires : goal.shown_size-requires
shown_size-requires c = sym c.plan_asked.ensures ∙ ok_none _ (sym c.is_err.ensures.value ∙ c.if-is_err.false)
