-- The struct written is the definition's.
use mathlib.Core.Path.{refl}
use Rattle.plan_judge.specs.promises.Values.{nothing}
use Rattle.plan_judge.proofs.empty.Goals as goal

pub returns : goal.returns
unfolding nothing
returns c = refl
