-- `leaf`: the value known of the cone's root.
use mathlib.Core.Path.{refl, ap, ◌∙◌}
use Rattle.evaluation.specs.promises.Learnt.{known}
use Rattle.best_plan.proofs.leaf.Goals as goal

pub returns : goal.returns
returns c = (c.from.ensures ∙ c.known.ensures ∙ ap (λ j. known c.args.v.now j 0) c.root.ensures, refl)
