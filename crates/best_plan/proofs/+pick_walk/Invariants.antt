use mathlib.Core.Path.{◌≡◌}
use lib.ListN.{take}
use Rattle.models.specs.Layout.{denominator_of}
use Rattle.evaluation.specs.promises.Reached.{on_path}
use Rattle.best_plan.proofs.OutcomesWalked.{Walking}
use Rattle.best_plan.proofs.HopelessLoses.{weighed}
use Rattle.best_plan.proofs.PathOneStepOn.{Kept}
use Rattle.best_plan.proofs.LoopsKeepBuffers.{ChoicesTried}
use Prim.Native.Nat.{◌+◌}
use Rattle.best_plan.proofs.+pick_walk.Given as goal

abbrev pub decreases-pick : goal.decreases-pick
decreases-pick l = l.spot.k + l.spot.k

abbrev pub decreases-walk : goal.decreases-walk
decreases-walk l = l.spot.k + l.spot.k + 1

abbrev pub invariant-pick-loop-i : goal.invariant-pick-loop-i
invariant-pick-loop-i l = ChoicesTried l.spot.least l.m l.q l.spot.start l.cone l.spot.h l.spot.s l.spot.k l.spot.at l.initial.trail l.initial.gains l.initial.v l.initial.choices l.i l.trail l.gains l.v l.choices l.best

abbrev pub invariant-walk-loop-o : goal.invariant-walk-loop-o
invariant-walk-loop-o l = Walking l.spot.least l.m l.spot.s l.i l.spot.k (on_path l.m l.q l.spot.start l.cone (take l.spot.h l.initial.trail)) l.o l.spot.at l.initial.choices l.choices l.sum l.end
    × Kept l.m l.q l.spot.start l.cone l.spot.h l.initial.trail l.initial.gains l.initial.v l.initial.choices l.trail l.gains l.v l.choices
    × (l.rest + weighed l.m l.spot.s l.i l.o ≡ denominator_of l.m)
