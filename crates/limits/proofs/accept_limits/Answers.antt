-- `limit_refusal` meets its contract: paths are tested at every node before plans are, as the two guards of `limits` stand.
use mathlib.Core.Path.{sym, ◌∙◌}
use mathlib.Core.Bool.{true, false}
use borrow.Author.Tests.{not-true, not-false}
use Rattle.questions.specs.Layout.{question_of}
use Rattle.limits.proofs.NodeByNode.{limits_paths, limits_plans}
use Rattle.limits.proofs.accept_limits.Goals as goal

pub returns-then-not-paths_fit : goal.returns-then-not-paths_fit
unfolding question_of
returns-then-not-paths_fit c = limits_paths _ _ (sym c.paths_fit.ensures ∙ not-true _ c.if-not-paths_fit.true-raw)

pub returns-then-not-plans_fit : goal.returns-then-not-plans_fit
unfolding question_of
returns-then-not-plans_fit c = limits_plans _ _ (sym c.paths_fit.ensures ∙ not-false _ c.if-not-paths_fit.false-raw) {t = false} (sym c.plans_fit.ensures ∙ not-true _ c.if-not-plans_fit.true-raw)

pub returns : goal.returns
unfolding question_of
returns c = limits_plans _ _ (sym c.paths_fit.ensures ∙ not-false _ c.if-not-paths_fit.false-raw) {t = true} (sym c.plans_fit.ensures ∙ not-false _ c.if-not-plans_fit.false-raw)
