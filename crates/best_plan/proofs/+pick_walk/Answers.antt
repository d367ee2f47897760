-- `pick` and `walk` meet their contracts, together: the steps left fall from the one to the other. `pick` keeps the best of the choices tried
-- (`Tried`), `walk` the sum over the outcomes walked (`OutcomesWalked`) and what those left weigh.
use native.Mathlib.Omega.{arith}
use mathlib.Core.Path.{◌∙◌}
use lib.ListN.{take, length-set}
use Rattle.prepared_model.specs.promises.Rows.{choices_in, Offers}
use Rattle.evaluation.specs.promises.Reached.{on_path}
use Rattle.evaluation.specs.promises.Known.{Stepped}
use Rattle.best_plan.proofs.OutcomesWalked.{walking_none}
use Rattle.best_plan.proofs.HopelessLoses.{weighed_none}
use Rattle.best_plan.proofs.PathOneStepOn.{state_here, place_here, few_here, picked_leaf, back_none, kept_none}
use Rattle.best_plan.proofs.LoopsKeepBuffers.{hopeless_asked, hopeless_cannot_win, rest_after_outcome, step_asked, pick_room, last_room, pick_setting, last_setting, Below, below_last, sum_with_outcome_fits, one_outcome_more_walked, buffers_kept_below, all_outcomes_walked, no_choice_tried, walk_room, walk_setting, all_choices_tried, best_there, keep_asked, one_choice_more_tried, same}
use Prim.Native.Nat.{◌+◌, ◌<◌}
use Rattle.std.specs.Prelude.{◌≡◌, refl, Option, None, Some, IsSome}
use Rattle.best_plan.specs.declared.Walked.{Walked}
use Rattle.best_plan.proofs.+pick_walk.Goals as goal
use Rattle.best_plan.proofs.+pick_walk.Goals.{walk-then-k-eq1, walk-else-k-eq1}

-- What is not missing is there.
there : (best : Option Walked) → (best ≡ None → ⊥) → IsSome best
there None h = absurd (h refl)
there (Some b) h = refl

pub pick-leaf-requires : goal.pick-leaf-requires
pick-leaf-requires t c = c.requires.setting.marked.some

pub pick-returns-then-spot-eq0 : goal.pick-returns-then-spot-eq0
pick-returns-then-spot-eq0 t c = let S = c in record { effect = picked_leaf S.requires.setting S.args.spot.least c.leaf.result S.args.spot.at S.args.choices.now c.if-spot-eq0.true c.leaf.ensures; frame = back_none S.requires.setting }

pub pick-choices-n-requires : goal.pick-choices-n-requires
pick-choices-n-requires t c = let P = c.requires.setting in omega (arith, state_here P, P.ready.prepared.states)

pub pick-overflow_cast-n : goal.pick-overflow_cast-n
pick-overflow_cast-n t c = let S = c in
    let P = S.requires.setting in
    omega (arith, c.choices-n.ensures, P.ready.prepared.few_choices S.args.spot.s (state_here P))

pub pick-loop-i-init : goal.pick-loop-i-init
pick-loop-i-init t c = let S = c in
    no_choice_tried S.requires.setting S.args.spot.at S.args.choices.now

pub pick-choice-requires : goal.pick-choice-requires
pick-choice-requires t c = let P = c.requires.setting in
    (P.ready.prepared, state_here P, omega arith)

pub pick-bounds-choices-from : goal.pick-bounds-choices-from
pick-bounds-choices-from t c = let S = c in
    rw c.end_of-from.ensures (walk_room S.requires.setting c.if-spot-eq0.false c.loop-i.invariant S.requires.k_in_bounds).0

pub pick-overflow_add-below : goal.pick-overflow_add-below
pick-overflow_add-below t c = let S = c in
    let L = c.loop-i in
    omega (arith, (walk_room S.requires.setting c.if-spot-eq0.false L.invariant S.requires.k_in_bounds).0, L.invariant.kept.room)

pub pick-walk-w-requires : goal.pick-walk-w-requires
pick-walk-w-requires t c = let S = c in
    let L = c.loop-i in
    let some = c.if-spot-eq0.false in
    let r = walk_room S.requires.setting some L.invariant S.requires.k_in_bounds in
    (omega (arith, S.decreases, some), (walk_setting S.requires.setting some L.invariant, (omega arith, rw c.end_of-from.ensures (simp length-set r.1))))

pub pick-keep-requires : goal.pick-keep-requires
pick-keep-requires t c = let S = c in
    let L = c.loop-i in
    let W = c.walk-w in
    keep_asked S.requires.setting c.if-spot-eq0.false L.invariant S.requires.k_in_bounds (omega arith) c.choice.ensures c.end_of-from.ensures {choices' = W.new.choices} W.ensures.effect

pub pick-loop-i-preserved : goal.pick-loop-i-preserved
pick-loop-i-preserved t c = let S = c in
    let L = c.loop-i in
    let W = c.walk-w in
    let J = c.keep in
    let place : L.i < choices_in S.args.m.now S.args.spot.s = omega arith in
    one_choice_more_tried S.requires.setting c.if-spot-eq0.false L.invariant S.requires.k_in_bounds place c.choice.ensures c.end_of-from.ensures {choices' = W.new.choices} W.ensures.effect W.ensures.frame J.ensures
    (J.auto.choices ∙ W.auto.choices)

pub pick-unwrap-requires : goal.pick-unwrap-requires
pick-unwrap-requires t c = let L = c.loop-i in
    there _ (best_there c.requires.setting c.if-spot-eq0.false L.invariant (omega arith))

pub pick-shape_of-choices : goal.pick-shape_of-choices
pick-shape_of-choices t c = c.loop-i.invariant.kept.room

pub pick-returns : goal.pick-returns
pick-returns t c = let L = c.loop-i in record { effect = all_choices_tried c.requires.setting c.if-spot-eq0.false L.invariant (omega arith) c.unwrap.ensures; frame = L.invariant.kept.back }

pub walk-outcomes-n-requires : goal.walk-outcomes-n-requires
walk-outcomes-n-requires t c = let S = c in place_here S.requires.setting S.requires.i_bound.0

pub walk-overflow_cast-n : goal.walk-overflow_cast-n
walk-overflow_cast-n t c = let S = c in omega (arith, c.outcomes-n.ensures, few_here S.requires.setting S.requires.i_bound.0)

pub walk-loop-o-init : goal.walk-loop-o-init
walk-loop-o-init t c = let S = c in
    let A = S.args in (
      walking_none S.args.spot.least A.m.now S.args.spot.s A.i S.args.spot.k (on_path A.m.now A.q.now S.args.spot.start A.cone.now (take S.args.spot.h A.trail.now)) S.args.spot.at A.choices.now,
      kept_none S.requires.setting A.choices.now,
      omega (arith, weighed_none A.m.now S.args.spot.s A.i, c.denominator-rest.ensures),
    )

pub walk-hopeless-requires : goal.walk-hopeless-requires
walk-hopeless-requires t c =
    let here : let A = c.args in Offers A.m.now A.spot.s A.i c.loop-o.o = (c.requires.i_bound.0, omega arith) in
    let S = c in
    let L = c.loop-o in
    hopeless_asked S.args.spot.k S.requires.setting L.invariant.1 L.invariant.0 here L.rest L.invariant.2

pub walk-shape_of-choices-then-hopeless : goal.walk-shape_of-choices-then-hopeless
walk-shape_of-choices-then-hopeless t c = c.loop-o.invariant.1.room

pub walk-returns-then-hopeless : goal.walk-returns-then-hopeless
walk-returns-then-hopeless t c =
    let here : let A = c.args in Offers A.m.now A.spot.s A.i c.loop-o.o = (c.requires.i_bound.0, omega arith) in
    let S = c in
    let L = c.loop-o in record { effect = hopeless_cannot_win S.args.spot.k S.requires.setting L.invariant.1 L.invariant.0 here L.rest L.invariant.2 S.args.best c.hopeless.ensures c.if-hopeless.true; frame = L.invariant.1.back }

pub walk-step-t-requires : goal.walk-step-t-requires
walk-step-t-requires t c =
    let here : let A = c.args in Offers A.m.now A.spot.s A.i c.loop-o.o = (c.requires.i_bound.0, omega arith) in
    let S = c in
    let L = c.loop-o in
    let x = step_asked S.args.spot.k S.requires.setting L.invariant.1 L.invariant.0 here in record { ready = x.0; offered = x.1; knows = x.2 }

pub walk-overflow_add-below : goal.walk-overflow_add-below
walk-overflow_add-below t c = omega (arith, c.requires.setting.few)

pub walk-pick_last-b-requires : goal.walk-pick_last-b-requires
walk-pick_last-b-requires t c =
    let here : let A = c.args in Offers A.m.now A.spot.s A.i c.loop-o.o = (c.requires.i_bound.0, omega arith) in
    let stepped : let A = c.args in
    let L = c.loop-o in
    let T = c.step-t in
    Stepped A.m.now A.q.now A.spot.start A.cone.now A.spot.h A.spot.s A.i L.o L.trail T.new.trail T.new.gains T.new.v T.result = c.step-t.ensures in
    let S = c in
    let L = c.loop-o in
    let e = c.if-k-eq1.true in record { setting = last_setting S.args.spot.k S.requires.setting L.invariant.1 L.invariant.0 here stepped e; most_choices_in_bounds = last_room S.args.spot.k S.requires.setting L.invariant.1 L.invariant.0 here e S.requires.i_bound.1 }

pub walk-pick-b-requires : goal.walk-pick-b-requires
walk-pick-b-requires t c =
    let here : let A = c.args in Offers A.m.now A.spot.s A.i c.loop-o.o = (c.requires.i_bound.0, omega arith) in
    let stepped : let A = c.args in
    let L = c.loop-o in
    let T = c.step-t in
    Stepped A.m.now A.q.now A.spot.start A.cone.now A.spot.h A.spot.s A.i L.o L.trail T.new.trail T.new.gains T.new.v T.result = c.step-t.ensures in
    let S = c in
    let L = c.loop-o in
    (omega (arith, S.decreases), (pick_setting S.args.spot.k S.requires.setting L.invariant.1 L.invariant.0 here stepped, pick_room S.args.spot.k S.requires.setting L.invariant.1 L.invariant.0 here S.requires.i_bound.1))

pub walk-weight-w-requires : goal.walk-weight-w-requires
walk-weight-w-requires t c = let S = c in
    let L = c.loop-o in
    let z = place_here S.requires.setting S.requires.i_bound.0 in
    (z.0, z.1, omega (arith, few_here S.requires.setting S.requires.i_bound.0))

pub walk-add_mul-sum-requires : goal.walk-add_mul-sum-requires
walk-add_mul-sum-requires t c =
    let here : let A = c.args in Offers A.m.now A.spot.s A.i c.loop-o.o = (c.requires.i_bound.0, omega arith) in
    let stepped : let A = c.args in
    let L = c.loop-o in
    let T = c.step-t in
    Stepped A.m.now A.q.now A.spot.start A.cone.now A.spot.h A.spot.s A.i L.o L.trail T.new.trail T.new.gains T.new.v T.result = c.step-t.ensures in
    let below_here : let S = c in
    let L = c.loop-o in
    let T = c.step-t in
    Below S.args.spot.least S.args.m.now S.args.q.now S.args.spot.start S.args.cone.now (S.args.spot.h + 1) T.result S.args.spot.k L.end T.new.trail T.new.gains T.new.v L.choices c.if-k-eq1.trail c.if-k-eq1.gains c.if-k-eq1.v c.if-k-eq1.choices c.if-k-eq1.b = let S = c in
    let L = c.loop-o in
    let T = c.step-t in
    let P = Below S.args.spot.least S.args.m.now S.args.q.now S.args.spot.start S.args.cone.now (S.args.spot.h + 1) T.result S.args.spot.k L.end T.new.trail T.new.gains T.new.v L.choices in
    elim c.if-k-eq1.branch [
      | walk-then-k-eq1 w ↦ same P w.trail-is w.gains-is w.v-is w.choices-is w.b-is
          (below_last S.args.spot.k S.requires.setting L.invariant.1 L.invariant.0 here stepped
          {choices'' = w.pick_last-b.new.choices} w.if-k-eq1.true w.pick_last-b.ensures w.pick_last-b.auto.choices)
      | walk-else-k-eq1 w ↦ same P w.trail-is w.gains-is w.v-is w.choices-is w.b-is
          (record { picked = w.pick-b.ensures.effect; kept = record { back = w.pick-b.ensures.frame; room = w.pick-b.auto.choices } })
    ] in
    let S = c in
    let L = c.loop-o in
    sum_with_outcome_fits S.args.spot.k S.requires.setting L.invariant.1 L.invariant.0 here stepped below_here c.weight-w.result c.weight-w.ensures.value

pub walk-overflow_sub-rest : goal.walk-overflow_sub-rest
walk-overflow_sub-rest t c =
    let here : let A = c.args in Offers A.m.now A.spot.s A.i c.loop-o.o = (c.requires.i_bound.0, omega arith) in
    let S = c in
    let L = c.loop-o in
    (rest_after_outcome S.args.spot.k S.requires.setting L.invariant.1 L.invariant.0 here L.rest L.invariant.2 c.weight-w.result c.weight-w.ensures.value).0

pub walk-loop-o-preserved : goal.walk-loop-o-preserved
walk-loop-o-preserved t c =
    let here : let A = c.args in Offers A.m.now A.spot.s A.i c.loop-o.o = (c.requires.i_bound.0, omega arith) in
    let stepped : let A = c.args in
    let L = c.loop-o in
    let T = c.step-t in
    Stepped A.m.now A.q.now A.spot.start A.cone.now A.spot.h A.spot.s A.i L.o L.trail T.new.trail T.new.gains T.new.v T.result = c.step-t.ensures in
    let below_here : let S = c in
    let L = c.loop-o in
    let T = c.step-t in
    Below S.args.spot.least S.args.m.now S.args.q.now S.args.spot.start S.args.cone.now (S.args.spot.h + 1) T.result S.args.spot.k L.end T.new.trail T.new.gains T.new.v L.choices c.if-k-eq1.trail c.if-k-eq1.gains c.if-k-eq1.v c.if-k-eq1.choices c.if-k-eq1.b = let S = c in
    let L = c.loop-o in
    let T = c.step-t in
    let P = Below S.args.spot.least S.args.m.now S.args.q.now S.args.spot.start S.args.cone.now (S.args.spot.h + 1) T.result S.args.spot.k L.end T.new.trail T.new.gains T.new.v L.choices in
    elim c.if-k-eq1.branch [
      | walk-then-k-eq1 w ↦ same P w.trail-is w.gains-is w.v-is w.choices-is w.b-is
          (below_last S.args.spot.k S.requires.setting L.invariant.1 L.invariant.0 here stepped
          {choices'' = w.pick_last-b.new.choices} w.if-k-eq1.true w.pick_last-b.ensures w.pick_last-b.auto.choices)
      | walk-else-k-eq1 w ↦ same P w.trail-is w.gains-is w.v-is w.choices-is w.b-is
          (record { picked = w.pick-b.ensures.effect; kept = record { back = w.pick-b.ensures.frame; room = w.pick-b.auto.choices } })
    ] in
    let S = c in
    let L = c.loop-o in
    let D = below_here in (
      one_outcome_more_walked S.args.spot.k S.requires.setting L.invariant.1 L.invariant.0 here stepped D c.weight-w.result c.weight-w.ensures.value c.add_mul-sum.ensures,
      buffers_kept_below S.args.spot.k S.requires.setting L.invariant.1 L.invariant.0 here stepped D,
      (rest_after_outcome S.args.spot.k S.requires.setting L.invariant.1 L.invariant.0 here L.rest L.invariant.2 c.weight-w.result c.weight-w.ensures.value).1,
    )

pub walk-shape_of-choices : goal.walk-shape_of-choices
walk-shape_of-choices t c = c.loop-o.invariant.1.room

pub walk-returns : goal.walk-returns
walk-returns t c = let L = c.loop-o in record { effect = all_outcomes_walked L.invariant.0 (omega arith); frame = L.invariant.1.back }
