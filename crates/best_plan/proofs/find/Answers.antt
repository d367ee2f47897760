-- `find`: the search from the start, where no step is taken and `learn` makes known what needs none.
use native.Mathlib.Omega.{arith}
use mathlib.Core.Path.{refl}
use Rattle.evaluation.proofs.LearnKnows.{cone_node}
use Rattle.logic.proofs.MostChoices.{most_choices_6}
use Rattle.best_plan.proofs.LoopsKeepBuffers.{late_asked, setting_start, found}
use Rattle.best_plan.proofs.find.Goals as goal

pub late-marks-requires : goal.late-marks-requires
late-marks-requires c = let S = c in late_asked S.requires.ready S.requires.d_value.3

pub learn-requires : goal.learn-requires
learn-requires c =
    let R = c.requires.ready in
    (cone_node R, omega (arith, R.state, R.prepared.states), omega arith)

pub pick-b-requires : goal.pick-b-requires
pick-b-requires c = let S = c in record { setting = setting_start S.requires.ready c.late-marks.ensures _ S.requires.d_value.0 S.requires.d_value.1 refl refl refl c.learn.ensures; k_in_bounds = omega (arith, S.requires.d_value.2, most_choices_6 S.args.d S.requires.d_value.1) }

pub returns : goal.returns
returns c = let S = c in
    found S.requires.ready.prepared S.requires.d_value.1 c.pick-b.ensures.effect
