use Prim.Native.Nat.{◌+◌, min}
use mathlib.Core.Path.{◌≡◌}
use lib.ListN.{get_or}
use Rattle.logic.specs.Lists.{tabulate}
use Rattle.prepared_model.specs.promises.Rows.{step_in}
use Rattle.limits.specs.promises.Totals.{gather, cap}
use Rattle.limits.proofs.choice_total.Given as goal

abbrev pub invariant-loop-o : goal.invariant-loop-o
invariant-loop-o g l = l.total ≡ min (cap g.K.Kind.plans) (gather g.K.Kind.plans (λ x. get_or l.table (l.at + x.target) 0) (tabulate l.o (step_in l.m l.s l.i)))
