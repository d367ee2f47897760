use Prim.Native.Nat.{◌+◌, ◌*◌, ◌-◌, ◌<◌, min}
use mathlib.Core.Path.{◌≡◌}
use Rattle.prepared_model.specs.promises.Rows.{choices_in}
use Rattle.exact_plan.proofs.OutcomesJoined.{Spanned}
use Rattle.exact_plan.proofs.ChoiceByChoice.{Listed}
use Rattle.exact_plan.proofs.lists.+below_combine_grown_list_weighed_below.Given as goal

abbrev pub decreases-below : goal.decreases-below
decreases-below l = 4 * l.spot.k + 1

abbrev pub decreases-combine : goal.decreases-combine
decreases-combine l = 4 * l.spot.k + 3

abbrev pub decreases-grown : goal.decreases-grown
decreases-grown l = 4 * l.spot.k + 2

abbrev pub decreases-list : goal.decreases-list
decreases-list l = 4 * l.spot.k

abbrev pub decreases-weighed_below : goal.decreases-weighed_below
decreases-weighed_below l = 4 * l.spot.k + 2

abbrev pub invariant-combine-loop-taken : goal.invariant-combine-loop-taken
invariant-combine-loop-taken l =
    Spanned l.m l.q l.spot.start l.spot.a l.spot.d l.cone l.spot.h l.spot.s l.i l.spot.k l.spot.at l.c l.initial.trail l.initial.buf l.trail l.gains l.v l.buf (min l.start (l.c - l.taken)) (min l.start (l.c - l.taken) + l.taken) l.len

abbrev pub invariant-list-loop-i : goal.invariant-list-loop-i
invariant-list-loop-i l =
    (l.n ≡ choices_in l.m l.spot.s) × (l.spot.h < l.spot.d) × Listed l.m l.q l.spot.start l.spot.a l.spot.d l.cone l.spot.h l.spot.s l.spot.k (l.spot.k - 1) l.spot.at l.initial.trail l.initial.buf l.trail l.gains l.v l.buf l.len l.i
