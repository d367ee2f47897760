use Prim.Native.Nat.{◌-◌}
use lib.ListN.{take, drop}
use Rattle.plan_choices.specs.promises.Weighed.{Ran}
use Rattle.plan_choices.proofs.OutcomeSummed.{runs}
use Rattle.plan_choices.proofs.weighing.+weigh_from.Given as goal

abbrev pub decreases-weigh_from : goal.decreases-weigh_from
decreases-weigh_from l = l.spot.k

abbrev pub invariant-loop-o : goal.invariant-loop-o
invariant-loop-o l =
    Ran (runs l.m l.q l.spot.start l.spot.a l.spot.d l.cone (take l.spot.h l.initial.trail) (l.spot.k - 1) l.spot.s l.row.at l.o (drop l.initial.next l.choices)) l.m l.q l.spot.start l.cone l.spot.h l.initial.trail l.trail l.gains l.v l.choices l.sum l.next
