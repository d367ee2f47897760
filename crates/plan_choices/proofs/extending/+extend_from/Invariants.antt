use Prim.Native.Nat.{◌*◌, ◌-◌}
use mathlib.Core.Path.{◌≡◌}
use lib.ListN.{length, drop}
use Rattle.prepared_model.specs.promises.Rows.{step_in, model_in}
use Rattle.logic.specs.promises.MostChoices.{most_choices}
use Rattle.plan_choices.specs.promises.Extended.{by_place, Ran}
use Rattle.plan_choices.proofs.Runs.{runs}
use Rattle.plan_choices.proofs.extending.+extend_from.Given as goal

abbrev pub decreases-extend_from : goal.decreases-extend_from
decreases-extend_from l = l.n

abbrev pub invariant-loop-o : goal.invariant-loop-o
invariant-loop-o l =
    Ran (runs (model_in l.m) (by_place l.m l.places) (step_in l.m l.s l.row.at) (l.d - l.k) (l.n - 1) l.src l.o (drop l.initial.next.from l.src)) (l.o * most_choices (l.n - 1)) l.src l.initial.next.from l.next.from l.initial.dst l.dst l.initial.next.at l.next.at
    × (length l.dst ≡ length l.initial.dst)
