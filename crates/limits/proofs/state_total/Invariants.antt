use Prim.Native.Nat.{◌+◌, min}
use mathlib.Core.Path.{◌≡◌}
use lib.ListN.{get_or}
use Rattle.logic.specs.Lists.{tabulate}
use Rattle.logic.specs.Quantity.{naturals, sum}
use Rattle.logic.specs.Model.{outcomes}
use Rattle.prepared_model.specs.promises.Rows.{choice_in, model_in}
use Rattle.limits.specs.promises.Totals.{gather, cap}
use Rattle.limits.proofs.state_total.Given as goal

abbrev pub invariant-loop-i : goal.invariant-loop-i
invariant-loop-i g l = l.total ≡ min (cap g.K.Kind.plans) (sum naturals (λ a. gather g.K.Kind.plans (λ o. get_or l.table (l.at + o.target) 0) (outcomes (model_in l.m) l.s a)) (tabulate l.i (choice_in l.m l.s)))
