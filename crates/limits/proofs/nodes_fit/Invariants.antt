use mathlib.Core.Path.{◌≡◌}
use mathlib.Core.Bool.{true}
use Rattle.logic.specs.Lists.{every}
use Rattle.prepared_model.specs.promises.Rows.{model_in}
use Rattle.questions.specs.Layout.{node_of}
use Rattle.limits.specs.promises.Totals.{node_fits}
use Rattle.limits.proofs.nodes_fit.Given as goal

abbrev pub invariant-loop-i : goal.invariant-loop-i
invariant-loop-i g l = every l.i (λ i'. node_fits g.K.Kind.plans (model_in l.m) (node_of l.q i')) ≡ true
