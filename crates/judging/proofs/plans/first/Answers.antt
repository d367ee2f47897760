-- Where the one total that meets the bound is whole, its first place decides; else no plan meets it.
use Prim.Native.Nat.{ℕ, ◌+◌, ◌*◌, ◌≤◌}
use native.Mathlib.Omega.{arith}
use mathlib.Core.Path.{◌≡◌, refl, sym, ap, subst, ◌∙◌}
use lib.ListN.{get_or}
use lib.Seq.{length-take-le}
use borrow.Author.Tests.{not-true, not-false}
use Rattle.logic.specs.Limits.{plan_total}
use Rattle.prepared_model.specs.promises.Rows.{model_in}
use Rattle.questions.specs.Layout.{node_of}
use Rattle.bounds.proofs.ProductsFit.{compares}
use Rattle.judging.proofs.SearchDecides.{few_plans, all_counted, counted_plans}
use Rattle.judging.proofs.SearchHanded.{bounded_at, handed_listing, handed_within, placed_never, placed_at}
use Rattle.judging.proofs.plans.first.Goals as goal

pub plans_counted-all-requires : goal.plans_counted-all-requires
plans_counted-all-requires c =
    let few_steps : (node_of c.args.q.now c.args.j).n ≤ 6 = let P = c.requires.asked in (compares c.args.m.now c.args.q.now c.args.j (bounded_at P.0.given P.1)).few_steps in
    let S = c in
    let P = S.requires.asked in
    (omega (arith, few_steps, c.steps-n.ensures), omega (arith, P.1.state, P.0.given.prepared.states))

pub exact_total-x-requires : goal.exact_total-x-requires
exact_total-x-requires c = let P = c.requires.asked in bounded_at P.0.given P.1

pub returns-then-not-x : goal.returns-then-not-x
returns-then-not-x c =
    let few_steps : (node_of c.args.q.now c.args.j).n ≤ 6 = let P = c.requires.asked in (compares c.args.m.now c.args.q.now c.args.j (bounded_at P.0.given P.1)).few_steps in
    let number : (x n : ℕ) → x ≡ get_or c.args.counts.now (32 * n + c.args.s) 0 → n ≡ (node_of c.args.q.now c.args.j).n
    → x ≡ plan_total (model_in c.args.m.now) (node_of c.args.q.now c.args.j).n c.args.s = λ x n e f. let P = c.requires.asked in
    e ∙ ap (λ (i : ℕ). get_or c.args.counts.now (32 * i + c.args.s) 0) f
    ∙ counted_plans P.0 c.args.j c.args.s P.1.node P.1.sets c.requires.j_value P.1.state few_steps in
    let S = c in
    let P = S.requires.asked in
    placed_never P.0.given P.1 c.exact_total-x.ensures
    (number _ _ c.plans_counted-all.ensures c.steps-n.ensures) (not-true _ c.if-not-x.true)

pub worth_of-w-requires : goal.worth_of-w-requires
worth_of-w-requires c = let P = c.requires.asked in (bounded_at P.0.given P.1, refl)

pub slice_bounds-nodes-end : goal.slice_bounds-nodes-end
slice_bounds-nodes-end c = omega (arith, c.worth_of-w.ensures.few, c.worth_of-w.ensures.size)

pub slice_bounds-first_equal-end : goal.slice_bounds-first_equal-end
slice_bounds-first_equal-end c = sym (length-take-le _ _ (omega (arith, c.worth_of-w.ensures.few, c.worth_of-w.ensures.size)))

pub first_equal-place-requires : goal.first_equal-place-requires
first_equal-place-requires c =
    let few_steps : (node_of c.args.q.now c.args.j).n ≤ 6 = let P = c.requires.asked in (compares c.args.m.now c.args.q.now c.args.j (bounded_at P.0.given P.1)).few_steps in
    let S = c in
    let A = S.requires.asked.0 in
    let P = S.requires.asked.1 in
    let w = c.worth_of-w.ensures in
    let n = c.steps-n.ensures in
    let few = few_plans A S.args.j S.args.s P.node P.sets S.requires.j_value P.state in record {
      given = handed_listing A.given P w (all_counted A S.args.j S.args.s P.node P.sets S.requires.j_value P.state);
      d_le_n = (
        omega (arith, handed_within A.given P w, n),
        omega (arith, few_steps, n),
        subst (λ (i : ℕ). plan_total (model_in S.args.m.now) i S.args.s ≤ 65536) (sym n) few,
      );
    }

pub returns : goal.returns
returns c =
    let few_steps : (node_of c.args.q.now c.args.j).n ≤ 6 = let P = c.requires.asked in (compares c.args.m.now c.args.q.now c.args.j (bounded_at P.0.given P.1)).few_steps in
    let number : (x n : ℕ) → x ≡ get_or c.args.counts.now (32 * n + c.args.s) 0 → n ≡ (node_of c.args.q.now c.args.j).n
    → x ≡ plan_total (model_in c.args.m.now) (node_of c.args.q.now c.args.j).n c.args.s = λ x n e f. let P = c.requires.asked in
    e ∙ ap (λ (i : ℕ). get_or c.args.counts.now (32 * i + c.args.s) 0) f
    ∙ counted_plans P.0 c.args.j c.args.s P.1.node P.1.sets c.requires.j_value P.1.state few_steps in
    let S = c in
    let P = S.requires.asked in
    let n = c.steps-n.ensures in
    let all = number _ _ c.plans_counted-all.ensures n in
    placed_at P.0.given P.1 c.exact_total-x.ensures all (not-false _ c.if-not-x.false) n c.worth_of-w.ensures c.first_equal-place.ensures
