use Prim.Native.Nat.{◌+◌, ◌≤◌}
use mathlib.Core.Path.{◌≡◌}
use lib.ListN.{length, drop}
use Rattle.logic.specs.Model.{outcomes}
use Rattle.logic.specs.Choices.{read_each, read_plan}
use Rattle.models.specs.Layout.{model_of}
use Rattle.sheets.specs.promises.Ends.{end_of}
use Rattle.sheets.proofs.plans.+below_plan_end.Given as goal

abbrev pub decreases-below : goal.decreases-below
decreases-below l = l.k + l.k + 1

abbrev pub decreases-plan_end : goal.decreases-plan_end
decreases-plan_end l = l.n + l.n

abbrev pub invariant-below-loop-i : goal.invariant-below-loop-i
invariant-below-loop-i l = (l.next ≤ length l.choices)
    × (end_of (length l.choices) (read_each (λ o. read_plan (model_of l.m) l.k o.target) (drop l.i (outcomes (model_of l.m) l.s l.a)) (drop l.next l.choices))
    ≡ end_of (length l.choices) (read_each (λ o. read_plan (model_of l.m) l.k o.target) (outcomes (model_of l.m) l.s l.a) (drop l.at l.choices)))
