-- The reader stands behind the plan's choices, or there is no plan.
use mathlib.Core.Path.{◌∙◌}
use Rattle.models.specs.Layout.{model_of}
use Rattle.plan_judge.proofs.SizeOfPlan.{size_by_end}
use Rattle.plan_judge.proofs.plan_size.Goals as goal

pub returns : goal.returns
returns c = c.unwrap_or.ensures ∙ size_by_end (model_of c.args.m.now) c.args.n c.args.s c.args.choices.now c.plan_end.result c.plan_end.ensures
