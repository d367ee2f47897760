use Prim.Native.Nat.{◌*◌}
use mathlib.Core.Path.{◌≡◌}
use Rattle.prepared_model.specs.promises.Rows.{choice_in, model_in}
use Rattle.plan_choices.specs.promises.Numbered.{ways}
use Rattle.plan_choices.proofs.Ways.{ways_left}
use Rattle.plan_choices.proofs.ranking.ways.Given as goal

abbrev pub invariant-loop-o : goal.invariant-loop-o
invariant-loop-o l = l.size * ways_left l.m l.s l.i l.n l.o ≡ ways (model_in l.m) l.n l.s (choice_in l.m l.s l.i)
