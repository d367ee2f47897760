-- `pick_last`: the lanes have the values of the last step.
use native.Mathlib.Omega.{arith}
use Rattle.logic.specs.promises.MostChoices.{most_choices}
use Rattle.best_plan.proofs.PathOneStepOn.{state_here}
use Rattle.best_plan.proofs.pick_last.Goals as goal

pub mask-x-requires : goal.mask-x-requires
mask-x-requires c = let P = c.requires.setting in
    record { ready = P.ready; marked = P.marked; whole = P.whole; knows = P.knows; state = P.state; deep = P.deep; few = omega (arith, P.few) }

pub last_choice-requires : goal.last_choice-requires
unfolding most_choices
last_choice-requires c = let P = c.requires in
    (P.setting.ready.prepared, state_here P.setting, P.most_choices_in_bounds)

pub returns : goal.returns
returns c = c.last_choice.ensures.picked _ c.mask-x.ensures
