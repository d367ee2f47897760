use Rattle.exact_plan.specs.promises.Sides.{NearestIn}
use Rattle.exact_plan.proofs.nearest.nearest_in.Given as goal

abbrev pub invariant-loop-place : goal.invariant-loop-place
invariant-loop-place l = NearestIn l.list l.place l.len l.above l.x l.best
