use mathlib.Core.Path.{◌≡◌}
use Rattle.exact_plan.specs.promises.Search.{ways_below}
use Rattle.exact_plan.proofs.lists.plans_below.Given as goal

abbrev pub invariant-loop-o : goal.invariant-loop-o
invariant-loop-o l = l.n ≡ ways_below l.m l.s l.i l.k l.o
