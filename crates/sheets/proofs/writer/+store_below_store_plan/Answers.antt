-- The choice for a history is stored at its place, and what is stored below it goes on from the next place. The loop has stored the choices
-- below the outcomes before i. The steps left fall: 2n for a choice, 2k + 1 for the outcomes below one, with k one less.
use Prim.Native.Nat.{◌<◌}
use native.Mathlib.Omega.{arith}
use lib.ListN.{length}
use Rattle.logic.specs.Model.{outcomes}
use Rattle.models.specs.Layout.{state_count, model_of}
use Rattle.sheets.specs.Layout.{blocks_for}
use Rattle.sheets.proofs.PlanEnds.{target_inside}
use Rattle.sheets.proofs.StoredBelow.{no_step, choice_there, below_ahead, choice_stored, walked_none, outcome_ahead, walked_more, walked_all}
use Rattle.sheets.proofs.writer.+store_below_store_plan.Goals as goal

pub store_below-loop-i-init : goal.store_below-loop-i-init
store_below-loop-i-init t c = let S = c in
    walked_none S.args.m.now S.args.choices.now S.args.s S.args.a S.args.k S.args.p S.args.buf.now S.requires.ahead

pub store_below-store_plan-next-requires : goal.store_below-store_plan-next-requires
store_below-store_plan-next-requires t c = let S = c in
    let L = c.loop-i in
    let l : L.i < length (outcomes (model_of S.args.m.now) S.args.s S.args.a) = omega (arith, c.outcome_count-count.ensures) in
    let t : c.outcome_target-t.result < state_count S.args.m.now = omega (arith, c.outcome_target-t.ensures, target_inside S.args.m.now S.requires.m_value.0 S.args.s S.requires.m_value.1 S.args.a L.i l) in
    (omega arith, ((S.requires.m_value.0, t), outcome_ahead S.args.m.now S.args.choices.now S.args.s S.args.a S.args.k L.i S.args.p L.next c.outcome_target-t.result S.args.buf.now L.buf L.invariant l c.outcome_target-t.ensures))

pub store_below-loop-i-preserved : goal.store_below-loop-i-preserved
store_below-loop-i-preserved t c = let S = c in
    let L = c.loop-i in
    let l : L.i < length (outcomes (model_of S.args.m.now) S.args.s S.args.a) = omega (arith, c.outcome_count-count.ensures) in
    walked_more S.args.m.now S.args.choices.now S.args.s S.args.a S.args.k L.i S.args.p L.next c.outcome_target-t.result S.args.buf.now L.buf L.invariant l c.outcome_target-t.ensures c.store_plan-next.result c.store_plan-next.new.buf c.store_plan-next.ensures

pub store_below-returns : goal.store_below-returns
store_below-returns t c = let S = c in
    let L = c.loop-i in
    walked_all S.args.m.now S.args.choices.now S.args.s S.args.a S.args.k L.i S.args.p L.next S.args.buf.now L.buf L.invariant (omega (arith, c.outcome_count-count.ensures))

pub store_plan-returns-then-n-eq0 : goal.store_plan-returns-then-n-eq0
store_plan-returns-then-n-eq0 t c = let S = c in
    no_step S.args.m.now S.requires.m_value.0 S.args.choices.now S.args.n S.args.s S.args.p S.args.buf.now c.if-n-eq0.true S.requires.ahead.inside

pub store_plan-bounds-choices-p : goal.store_plan-bounds-choices-p
store_plan-bounds-choices-p t c = let S = c in choice_there S.args.m.now S.requires.m_value.0 S.args.choices.now S.args.n S.args.s S.args.p S.args.buf.now S.requires.m_value.1 c.if-n-eq0.false S.requires.ahead

pub store_plan-store_choice-requires : goal.store_plan-store_choice-requires
unfolding blocks_for
store_plan-store_choice-requires t c = let S = c in
    let l = choice_there S.args.m.now S.requires.m_value.0 S.args.choices.now S.args.n S.args.s S.args.p S.args.buf.now S.requires.m_value.1 c.if-n-eq0.false S.requires.ahead in
    (omega (arith, S.requires.ahead.few), omega (arith, S.requires.ahead.room))

pub store_plan-store_below-requires : goal.store_plan-store_below-requires
store_plan-store_below-requires t c = let S = c in
    rw c.from.ensures (
      omega (arith, c.if-n-eq0.false),
      ((S.requires.m_value.0, S.requires.m_value.1, omega arith), below_ahead S.args.m.now S.requires.m_value.0 S.args.choices.now S.args.n S.args.s S.args.p S.args.buf.now S.requires.m_value.1 c.if-n-eq0.false S.requires.ahead c.store_choice.new.buf c.store_choice.auto.buf),
    )

pub store_plan-returns : goal.store_plan-returns
store_plan-returns t c = let S = c in
    choice_stored S.args.m.now S.requires.m_value.0 S.args.choices.now S.args.n S.args.s S.args.p S.args.buf.now S.requires.m_value.1 c.if-n-eq0.false S.requires.ahead c.store_below.result c.store_choice.new.buf c.store_below.new.buf c.store_choice.ensures (rw c.from.ensures at c.store_below.ensures)
