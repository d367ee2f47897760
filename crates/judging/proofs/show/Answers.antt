-- The plan at the place found, or the plan found, extended, is the shown plan.
use Prim.Native.Nat.{ℕ, ◌+◌, ◌≤◌, ◌<◌}
use native.Mathlib.Omega.{arith}
use mathlib.Core.Path.{◌≡◌, sym, ap, subst, ◌∙◌}
use lib.Dec.{eqb}
use Rattle.logic.specs.Plan.{choices}
use Rattle.logic.specs.Limits.{plan_total}
use Rattle.prepared_model.specs.promises.Rows.{model_in}
use Rattle.questions.specs.Layout.{node_of}
use Rattle.plan_choices.specs.promises.Extended.{extend, by_place, Placed}
use Rattle.bounds.specs.promises.Bounded.{lowered, lamp_at}
use Rattle.bounds.proofs.ProductsFit.{compares}
use Rattle.judging.specs.promises.Decided.{best_node, plan_at}
use Rattle.judging.proofs.SearchHanded.{asked_equal, asked_other}
use Rattle.judging.proofs.SearchDecides.{shows, all_counted}
use Rattle.judging.proofs.VerdictShown.{announces_plan, equal_few, equal_inside, equal_verdict, place_few, met_most, total_small, led_verdict}
use mir.Syntax.{w64}
use mir.ValLaws.{to_z-of_z}
use mir.Val.{to_z, of_z}
use Rattle.judging.proofs.show.Goals as goal

pub lowered-total-requires : goal.lowered-total-requires
lowered-total-requires c = let S = c in
    let P = S.requires.asked in record { bounded = P.1; x_bound = total_small P.0 P.1 S.args.s S.requires.s_bound.0 P.2 P.3 }

pub lamp_of-lamp-requires : goal.lamp_of-lamp-requires
lamp_of-lamp-requires c = let S = c in
    let P = S.requires.asked in record { bounded = P.1; x_bound = met_most P.0 P.1 S.args.s S.requires.s_bound.0 P.2 P.3 }

pub nth-requires : goal.nth-requires
nth-requires c =
    let few_steps : (node_of c.args.q.now c.args.j).n ≤ 6 = (compares c.args.m.now c.args.q.now c.args.j c.requires.asked.1).few_steps in
    let S = c in
    let P = S.requires.asked in
    let here = S.requires.s_bound.0 in
    let e = asked_equal S.args.q.now S.args.j c.asks_equal.ensures c.if-asks_equal.true in
    let n = c.steps-n.ensures in
    let few = (equal_few P.0 P.1 S.args.s here P.2 e).0 in
    let inside = equal_inside P.0 P.1 S.args.s here P.2 e P.3 in record {
      prepared = (P.0.given.prepared, all_counted P.0 S.args.j S.args.s P.1.node P.1.sets e here);
      s_bound = (
        here,
        omega (arith, few_steps, n),
        subst (λ (i : ℕ). plan_total (model_in S.args.m.now) i S.args.s ≤ 65536) (sym n) few,
        subst (λ (i : ℕ). S.args.r.place < plan_total (model_in S.args.m.now) i S.args.s) (sym n) inside,
        S.requires.s_bound.1,
      );
    }

pub overflow_cast-place : goal.overflow_cast-place
overflow_cast-place c =
    let place_small : c.args.r.place ≤ 65536 = let P = c.requires.asked in place_few P.0 P.1 c.args.s c.requires.s_bound.0 P.2 in
    record { fits = omega (arith, place_small) }

pub overflow_add-place : goal.overflow_add-place
overflow_add-place c =
    let place_small : c.args.r.place ≤ 65536 = let P = c.requires.asked in place_few P.0 P.1 c.args.s c.requires.s_bound.0 P.2 in
    record { fits = omega (arith, place_small) }

pub returns-then-asks_equal : goal.returns-then-asks_equal
returns-then-asks_equal c =
    let total_is : to_z w64 (of_z w64 c.lowered-total.result) ≡ lowered c.args.m.now c.args.q.now c.args.j c.args.r.raised = to_z-of_z w64 c.lowered-total.result (record { sfits = c.lowered-total.type_inv }) ∙ c.lowered-total.ensures in
    let S = c in
    let P = S.requires.asked in
    let e = asked_equal S.args.q.now S.args.j c.asks_equal.ensures c.if-asks_equal.true in
    let n = c.steps-n.ensures in
    announces_plan S.args.choices.now
    (equal_verdict P.0 P.1 S.args.s S.requires.s_bound.0 P.2 e P.3
    ∙ ap (λ w. shows w (lamp_at S.args.m.now S.args.q.now S.args.j (lowered S.args.m.now S.args.q.now S.args.j S.args.r.raised)) (node_of S.args.q.now S.args.j).n (1 + S.args.r.place) (choices (node_of S.args.q.now S.args.j).n (plan_at (model_in S.args.m.now) (node_of S.args.q.now S.args.j).n S.args.s S.args.r.place))) (sym total_is))
    n c.lamp_of-lamp.ensures (ap (λ (i : ℕ). choices i (plan_at (model_in S.args.m.now) i S.args.s S.args.r.place)) n) c.with_plan.ensures c.nth.ensures.frame

pub extend-requires : goal.extend-requires
extend-requires c = let S = c in
    let P = S.requires.asked in
    let e = asked_other S.args.q.now S.args.j c.asks_equal.ensures c.if-asks_equal.false in record { prepared = (P.0.given.prepared, S.requires.s_bound.0); placed = (subst (λ (n : ℕ). Placed S.args.m.now S.args.places.now n) (sym c.steps-n.ensures) (P.2.led e).table, S.requires.s_bound.1) }

pub returns : goal.returns
returns c =
    let total_is : to_z w64 (of_z w64 c.lowered-total.result) ≡ lowered c.args.m.now c.args.q.now c.args.j c.args.r.raised = to_z-of_z w64 c.lowered-total.result (record { sfits = c.lowered-total.type_inv }) ∙ c.lowered-total.ensures in
    let S = c in
    let P = S.requires.asked in
    let e = asked_other S.args.q.now S.args.j c.asks_equal.ensures c.if-asks_equal.false in
    let n = c.steps-n.ensures in
    announces_plan S.args.choices.now
    (led_verdict P.0 P.1 S.args.s S.requires.s_bound.0 P.2 e P.3
    ∙ ap (λ w. shows w (lamp_at S.args.m.now S.args.q.now S.args.j (lowered S.args.m.now S.args.q.now S.args.j S.args.r.raised)) (node_of S.args.q.now S.args.j).n 0 (choices (node_of S.args.q.now S.args.j).n (best_node S.args.m.now S.args.q.now S.args.j S.args.s (eqb (node_of S.args.q.now S.args.j).right 1)))) (sym total_is)) n c.lamp_of-lamp.ensures
    (ap (λ (i : ℕ). (extend (model_in S.args.m.now) (by_place S.args.m.now S.args.places.now) S.args.r.given i S.args.s S.args.scratch.now).0) n ∙ (P.2.led e).chosen)
    c.with_plan-2.ensures c.extend.ensures.frame
