-- What a search is handed for the node.
use Prim.Native.Nat.{ℕ, ◌≤◌}
use native.Mathlib.Omega.{arith}
use mathlib.Core.Path.{refl, sym, subst}
use lib.Seq.{length-take-le}
use Rattle.logic.specs.Limits.{plan_total}
use Rattle.prepared_model.specs.promises.Rows.{model_in}
use Rattle.questions.specs.Layout.{node_of}
use Rattle.exact_plan.specs.promises.Totals.{totals}
use Rattle.exact_plan.specs.promises.Sides.{Around}
use Rattle.bounds.proofs.ProductsFit.{compares}
use Rattle.judging.specs.promises.Decided.{raised_at}
use Rattle.judging.proofs.SearchDecides.{few_plans, all_counted}
use Rattle.judging.proofs.SearchHanded.{bounded_at, handed_listing, handed_within, handed_worth}
use Rattle.reasons.proofs.sides.neighbours.Goals as goal

pub worth_of-w-requires : goal.worth_of-w-requires
worth_of-w-requires c = let P = c.requires in (bounded_at P.0.given P.1, refl)

pub slice_bounds-nodes-end : goal.slice_bounds-nodes-end
slice_bounds-nodes-end c = let w = c.worth_of-w.ensures in omega (arith, w.few, w.size)

pub slice_bounds-nearest-end : goal.slice_bounds-nearest-end
slice_bounds-nearest-end c = let w = c.worth_of-w.ensures in sym (length-take-le _ _ (omega (arith, w.few, w.size)))

pub nearest-requires : goal.nearest-requires
nearest-requires c =
    let few_steps : (node_of c.args.q.now c.args.j).n ≤ 6 = (compares c.args.m.now c.args.q.now c.args.j (bounded_at c.requires.0.given c.requires.1)).few_steps in
    let S = c in
    let A = S.requires.0 in
    let P = S.requires.1 in
    let w = c.worth_of-w.ensures in
    let n = c.steps.ensures in
    let few = few_plans A S.args.j S.args.s P.node P.sets S.requires.2 P.state in record {
      given = handed_listing A.given P w (all_counted A S.args.j S.args.s P.node P.sets S.requires.2 P.state);
      d_le_n = (
        omega (arith, handed_within A.given P w, n),
        omega (arith, few_steps, n),
        subst (λ (i : ℕ). plan_total (model_in S.args.m.now) i S.args.s ≤ 65536) (sym n) few,
      );
    }

pub returns : goal.returns
returns c = let S = c in
    let M = model_in S.args.m.now in
    let n = c.steps.ensures in
    subst (λ (i : ℕ). Around (totals M i S.args.s (raised_at S.args.m.now S.args.q.now S.args.j S.args.s)) S.args.x c.nearest.result) n
    (subst (λ w. Around (totals M c.steps.result S.args.s w) S.args.x c.nearest.result) (handed_worth S.requires.0.given S.requires.1 c.worth_of-w.ensures) c.nearest.ensures)
