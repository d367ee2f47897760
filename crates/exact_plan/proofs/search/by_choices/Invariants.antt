use mathlib.Core.Path.{◌≡◌}
use lib.ListN.{length}
use Rattle.exact_plan.proofs.ChoicesSearched.{PassedOver}
use Rattle.exact_plan.proofs.search.by_choices.Given as goal

abbrev pub invariant-loop-i : goal.invariant-loop-i
invariant-loop-i l =
    (length l.buf ≡ length l.initial.buf) × PassedOver l.m l.q l.spot.start l.spot.a l.spot.d l.cone l.spot.h l.spot.s l.spot.k l.initial.trail l.trail l.gains l.v l.x l.before l.i
