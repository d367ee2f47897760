-- By the root.
use mathlib.Core.Path.{sym, ◌∙◌}
use Rattle.printing.proofs.no_line.Goals as goal

pub returns-then-root_sets_bound : goal.returns-then-root_sets_bound
returns-then-root_sets_bound c = rw (sym c.root_sets_bound.ensures ∙ c.if-root_sets_bound.true) c.no_plans_line.ensures

pub returns : goal.returns
returns c = rw (sym c.root_sets_bound.ensures ∙ c.if-root_sets_bound.false) c.plain_line.ensures
