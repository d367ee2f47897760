-- The first plan that meets the bound, or the nearest on either side.
use Prim.Native.Nat.{ℕ, ◌+◌, ◌*◌, ◌^◌}
use native.Mathlib.Omega.{arith}
use mathlib.Core.Path.{◌≡◌, refl, sym, ap, subst, ◌∙◌}
use lib.ListN.{get_or}
use Rattle.logic.specs.Limits.{plan_total}
use Rattle.models.specs.Layout.{denominator_of}
use Rattle.prepared_model.specs.promises.Rows.{model_in}
use Rattle.prepared_model.proofs.ReadByPlace.{denominator_is}
use Rattle.questions.specs.Layout.{node_of}
use Rattle.bounds.specs.promises.Bounded.{Bounded}
use Rattle.bounds.proofs.ProductsFit.{compares}
use Rattle.judging.proofs.SearchDecides.{counted_plans}
use Rattle.judging.proofs.SearchHanded.{bounded_at}
use Rattle.reasons.specs.promises.Told.{reason_code, front, back, at_bound, shown_code, Placed}
use Rattle.reasons.proofs.LedReason.{tells_shown, tells_reason}
use Rattle.reasons.proofs.NearestPlans.{both_placed, met_placed, met_verdict, missed_verdict, missed_reason}
use Rattle.reasons.proofs.sides.by_list.Goals as goal

pub plans_counted-all-requires : goal.plans_counted-all-requires
plans_counted-all-requires c =
    let bounded : Bounded c.args.m.now c.args.q.now c.args.j = bounded_at c.requires.asked.0.given c.requires.asked.1 in
    let S = c in
    let P = S.requires.asked in
    (omega (arith, (compares S.args.m.now S.args.q.now S.args.j bounded).few_steps, c.steps.ensures), omega (arith, P.1.state, P.0.given.prepared.states))

pub exact_total-x-requires : goal.exact_total-x-requires
exact_total-x-requires c =
    let bounded : Bounded c.args.m.now c.args.q.now c.args.j = bounded_at c.requires.asked.0.given c.requires.asked.1 in
    bounded

pub shown-requires : goal.shown-requires
shown-requires c =
    let bounded : Bounded c.args.m.now c.args.q.now c.args.j = bounded_at c.requires.asked.0.given c.requires.asked.1 in
    let all : ℕ = plan_total (model_in c.args.m.now) (node_of c.args.q.now c.args.j).n c.args.s in
    let number : c.plans_counted-all.result ≡ all = let S = c in
    let P = S.requires.asked in
    c.plans_counted-all.ensures ∙ ap (λ (i : ℕ). get_or S.args.counts.now (32 * i + S.args.s) 0) c.steps.ensures
    ∙ counted_plans P.0 S.args.j S.args.s P.1.node P.1.sets P.2 P.1.state (compares S.args.m.now S.args.q.now S.args.j bounded).few_steps in
    let tested : c.at_bound.result ≡ at_bound c.exact_total-x.result c.neighbours-r.result.above all = c.at_bound.ensures ∙ ap (at_bound c.exact_total-x.result c.neighbours-r.result.above) number in
    let S = c in
    let P = S.requires.asked in
    let t = sym tested ∙ c.if-at_bound.true in
    let w = met_placed bounded S.args.s P.1.state c.exact_total-x.ensures c.neighbours-r.ensures t in
    (P.0, bounded, P.2, P.1.state, w.0, w.1, S.requires.in_bounds.0)

pub returns-then-at_bound : goal.returns-then-at_bound
unfolding shown_code
returns-then-at_bound c =
    let bounded : Bounded c.args.m.now c.args.q.now c.args.j = bounded_at c.requires.asked.0.given c.requires.asked.1 in
    let all : ℕ = plan_total (model_in c.args.m.now) (node_of c.args.q.now c.args.j).n c.args.s in
    let number : c.plans_counted-all.result ≡ all = let S = c in
    let P = S.requires.asked in
    c.plans_counted-all.ensures ∙ ap (λ (i : ℕ). get_or S.args.counts.now (32 * i + S.args.s) 0) c.steps.ensures
    ∙ counted_plans P.0 S.args.j S.args.s P.1.node P.1.sets P.2 P.1.state (compares S.args.m.now S.args.q.now S.args.j bounded).few_steps in
    let tested : c.at_bound.result ≡ at_bound c.exact_total-x.result c.neighbours-r.result.above all = c.at_bound.ensures ∙ ap (at_bound c.exact_total-x.result c.neighbours-r.result.above) number in
    let S = c in
    let P = S.requires.asked in
    let m = S.args.m.now in
    let t = sym tested ∙ c.if-at_bound.true in
    let v = met_verdict bounded S.args.s P.1.state c.exact_total-x.ensures c.neighbours-r.ensures t P.2 in
    let e : denominator_of m ^ (node_of S.args.q.now S.args.j).n ≡ (model_in m).denominator ^ (node_of S.args.q.now S.args.j).n = ap (λ (d : ℕ). d ^ (node_of S.args.q.now S.args.j).n) (sym (denominator_is m)) in
    tells_shown _ v (rw (sym e) c.shown.ensures.value) c.shown.ensures.frame

pub reached-below-requires : goal.reached-below-requires
reached-below-requires c =
    let bounded : Bounded c.args.m.now c.args.q.now c.args.j = bounded_at c.requires.asked.0.given c.requires.asked.1 in
    let all : ℕ = plan_total (model_in c.args.m.now) (node_of c.args.q.now c.args.j).n c.args.s in
    let number : c.plans_counted-all.result ≡ all = let S = c in
    let P = S.requires.asked in
    c.plans_counted-all.ensures ∙ ap (λ (i : ℕ). get_or S.args.counts.now (32 * i + S.args.s) 0) c.steps.ensures
    ∙ counted_plans P.0 S.args.j S.args.s P.1.node P.1.sets P.2 P.1.state (compares S.args.m.now S.args.q.now S.args.j bounded).few_steps in
    let placed : let S = c in
    let A = S.args in
    let n = c.plans_counted-all.result in
    Placed A.m.now A.q.now A.j A.s n c.neighbours-r.result.below × Placed A.m.now A.q.now A.j A.s n c.neighbours-r.result.above = let S = c in
    let A = S.args in
    let w = both_placed bounded A.s S.requires.asked.1.state c.exact_total-x.ensures c.neighbours-r.ensures in
    let e = sym number in
    (subst (λ n. Placed A.m.now A.q.now A.j A.s n c.neighbours-r.result.below) e w.0, subst (λ n. Placed A.m.now A.q.now A.j A.s n c.neighbours-r.result.above) e w.1) in
    let S = c in
    let P = S.requires.asked in
    (P.0, bounded, P.2, P.1.state, placed.0, S.requires.in_bounds.0)

pub reached-above-requires : goal.reached-above-requires
reached-above-requires c =
    let bounded : Bounded c.args.m.now c.args.q.now c.args.j = bounded_at c.requires.asked.0.given c.requires.asked.1 in
    let all : ℕ = plan_total (model_in c.args.m.now) (node_of c.args.q.now c.args.j).n c.args.s in
    let number : c.plans_counted-all.result ≡ all = let S = c in
    let P = S.requires.asked in
    c.plans_counted-all.ensures ∙ ap (λ (i : ℕ). get_or S.args.counts.now (32 * i + S.args.s) 0) c.steps.ensures
    ∙ counted_plans P.0 S.args.j S.args.s P.1.node P.1.sets P.2 P.1.state (compares S.args.m.now S.args.q.now S.args.j bounded).few_steps in
    let placed : let S = c in
    let A = S.args in
    let n = c.plans_counted-all.result in
    Placed A.m.now A.q.now A.j A.s n c.neighbours-r.result.below × Placed A.m.now A.q.now A.j A.s n c.neighbours-r.result.above = let S = c in
    let A = S.args in
    let w = both_placed bounded A.s S.requires.asked.1.state c.exact_total-x.ensures c.neighbours-r.ensures in
    let e = sym number in
    (subst (λ n. Placed A.m.now A.q.now A.j A.s n c.neighbours-r.result.below) e w.0, subst (λ n. Placed A.m.now A.q.now A.j A.s n c.neighbours-r.result.above) e w.1) in
    let S = c in
    let P = S.requires.asked in
    (P.0, bounded, P.2, P.1.state, placed.1, S.requires.in_bounds.1)

pub returns : goal.returns
unfolding reason_code front back
returns c =
    let bounded : Bounded c.args.m.now c.args.q.now c.args.j = bounded_at c.requires.asked.0.given c.requires.asked.1 in
    let all : ℕ = plan_total (model_in c.args.m.now) (node_of c.args.q.now c.args.j).n c.args.s in
    let number : c.plans_counted-all.result ≡ all = let S = c in
    let P = S.requires.asked in
    c.plans_counted-all.ensures ∙ ap (λ (i : ℕ). get_or S.args.counts.now (32 * i + S.args.s) 0) c.steps.ensures
    ∙ counted_plans P.0 S.args.j S.args.s P.1.node P.1.sets P.2 P.1.state (compares S.args.m.now S.args.q.now S.args.j bounded).few_steps in
    let tested : c.at_bound.result ≡ at_bound c.exact_total-x.result c.neighbours-r.result.above all = c.at_bound.ensures ∙ ap (at_bound c.exact_total-x.result c.neighbours-r.result.above) number in
    let B = c in
    let S = c in
    let P = S.requires.asked in
    let n = number in
    let x = B.exact_total-x.ensures in
    let a = B.neighbours-r.ensures in
    let t = sym tested ∙ c.if-at_bound.false in
    let lo = c.reached-below.ensures in
    let hi = c.reached-above.ensures in
    tells_reason (missed_verdict bounded S.args.s P.1.state x a t P.2) (missed_reason bounded S.args.s P.1.state x a t P.2) (rw (sym n) (rw (lo.value, hi.value) refl)) (rw (sym n) lo.frame) (rw (sym n) hi.frame)
