-- A choice is read by the definition's first clause that fits it. The loop over the outcomes keeps that what is read from here on is what was to be read
-- from the start. The steps left fall: 2n for a choice, 2k + 1 for the outcomes below one, with k one less.
use Prim.Native.Nat.{◌<◌}
use native.Mathlib.Omega.{arith}
use mathlib.Core.Path.{◌≡◌, sym, ◌∙◌}
use lib.ListN.{length, get_or}
use Rattle.logic.specs.Model.{outcomes}
use Rattle.models.specs.Layout.{state_count, model_of}
use Rattle.sheets.proofs.PlanEnds.{target_inside, end_zero, end_missing, choice_refused, choice_taken, outcome_refused, outcome_read, outcomes_read}
use Rattle.std.proofs.lemmas.Result.{err_from_is_err_and}
use Rattle.sheets.proofs.plans.+below_plan_end.Goals as goal

pub below-plan_end-requires : goal.below-plan_end-requires
below-plan_end-requires t c = let S = c in
    let L = c.loop-i in
    let l : L.i < length (outcomes (model_of S.args.m.now) S.args.s S.args.a) = omega (arith, S.requires.3) in
    let t : c.outcome_target.result < state_count S.args.m.now = omega (arith, c.outcome_target.ensures, target_inside S.args.m.now S.requires.0 S.args.s S.requires.1 S.args.a L.i l) in
    (omega arith, (S.requires.0, t, L.invariant.0))

pub below-returns-in_err-next : goal.below-returns-in_err-next
below-returns-in_err-next t c = let S = c in
    let L = c.loop-i in
    let l : L.i < length (outcomes (model_of S.args.m.now) S.args.s S.args.a) = omega (arith, S.requires.3) in
    let p = err_from_is_err_and c.from_residual.result c.from_residual.ensures.1 in
    rw (p.1, p.2) (sym (sym L.invariant.1 ∙ outcome_refused S.args.m.now S.args.choices.now S.args.s S.args.a S.args.k L.i L.next c.outcome_target.result l c.outcome_target.ensures _ c.in_err-next.ensures))

pub below-loop-i-preserved : goal.below-loop-i-preserved
below-loop-i-preserved t c = let S = c in
    let L = c.loop-i in
    let l : L.i < length (outcomes (model_of S.args.m.now) S.args.s S.args.a) = omega (arith, S.requires.3) in
    let w = outcome_read S.args.m.now S.args.choices.now S.args.s S.args.a S.args.k L.i L.next c.outcome_target.result l c.outcome_target.ensures _ L.invariant.0 c.in_ok-next.ensures in
    (w.0, sym w.1 ∙ L.invariant.1)

pub below-returns : goal.below-returns
below-returns t c = let S = c in
    let L = c.loop-i in
    outcomes_read S.args.m.now S.args.choices.now S.args.s S.args.a S.args.k L.i L.next (omega (arith, S.requires.3)) L.invariant.0 ∙ L.invariant.1

pub plan_end-returns-then-n-eq0 : goal.plan_end-returns-then-n-eq0
plan_end-returns-then-n-eq0 t c = let S = c in
    end_zero (model_of S.args.m.now) S.args.choices.now S.args.n S.args.s S.args.at c.if-n-eq0.true S.requires.2

pub plan_end-returns-then-at-choices : goal.plan_end-returns-then-at-choices
plan_end-returns-then-at-choices t c = let S = c in
    end_missing (model_of S.args.m.now) S.args.choices.now S.args.n S.args.s S.args.at c.if-n-eq0.false c.if-at-choices.true

pub plan_end-returns-then-count-eq0 : goal.plan_end-returns-then-count-eq0
plan_end-returns-then-count-eq0 t c = let S = c in
    let count = rw c.from-a.ensures at c.outcome_count-count.ensures in
    choice_refused S.args.m.now S.requires.0 S.args.choices.now S.args.s S.args.at S.requires.1 (omega (arith, S.requires.2)) S.args.n c.if-n-eq0.false (sym count ∙ c.if-count-eq0.true)

pub plan_end-returns : goal.plan_end-returns
plan_end-returns t c = let S = c in
    let count = rw c.from-a.ensures at c.outcome_count-count.ensures in
    let below = rw c.from-a.ensures at c.below.ensures in
    let q : length (outcomes (model_of S.args.m.now) S.args.s (get_or S.args.choices.now S.args.at 0)) ≡ 0 → ⊥ = λ z. c.if-count-eq0.false (count ∙ z) in
    below ∙ choice_taken S.args.m.now S.requires.0 S.args.choices.now S.args.s S.args.at S.requires.1 (omega (arith, S.requires.2)) S.args.n c.if-n-eq0.false q
