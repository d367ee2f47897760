-- The plan at the place, spelled out, where there is one.
use Prim.Native.Nat.{ℕ, ◌≤◌, ◌<◌}
use native.Mathlib.Nat.{le_trans}
use native.Mathlib.Omega.{arith}
use mathlib.Core.Path.{◌≡◌, refl, sym, ap, subst, ◌∙◌}
use lib.ListN.{length}
use Rattle.logic.specs.Plan.{choices}
use Rattle.logic.specs.Limits.{plan_total}
use Rattle.blocks.specs.Splice.{splice}
use Rattle.blocks.proofs.Splice.{splice_none}
use Rattle.prepared_model.specs.promises.Rows.{model_in}
use Rattle.bounds.specs.promises.Bounded.{lowered}
use Rattle.bounds.proofs.ProductsFit.{compares, most_small}
use Rattle.judging.specs.promises.Decided.{plan_at}
use Rattle.judging.proofs.SearchDecides.{few_plans, all_counted}
use Rattle.reasons.specs.promises.Told.{near_reached, side_code, side_choices}
use borrow.Author.Tests.{eq-eqb, ne_eqb}
use mir.Syntax.{w64}
use mir.ValLaws.{to_z-of_z}
use mir.Val.{to_z, of_z}
use Rattle.reasons.proofs.sides.reached.Goals as goal

pub returns-then-near-all : goal.returns-then-near-all
unfolding near_reached side_code side_choices
returns-then-near-all c = let S = c in
    let e = eq-eqb S.args.near.place S.args.all c.if-near-all.true in record { value = rw e refl; frame = rw e (sym (splice_none S.args.choices.now 0)) }

pub nth-size-requires : goal.nth-size-requires
nth-size-requires c = let S = c in
    let P = S.requires in
    let n = c.steps.ensures in record {
      prepared = (P.0.given.prepared, all_counted P.0 S.args.j S.args.s P.1.node P.1.sets P.2 P.3);
      s_bound = (
        P.3,
        omega (arith, (compares S.args.m.now S.args.q.now S.args.j P.1).few_steps, n),
        subst (λ (i : ℕ). plan_total (model_in S.args.m.now) i S.args.s ≤ 65536) (sym n) (few_plans P.0 S.args.j S.args.s P.1.node P.1.sets P.2 P.3),
        subst (λ (i : ℕ). S.args.near.place < plan_total (model_in S.args.m.now) i S.args.s) (sym n) (P.4.inside c.if-near-all.false),
        P.5,
      );
    }

pub lowered-requires : goal.lowered-requires
lowered-requires c = let S = c in
    let P = S.requires in record { bounded = P.1; x_bound = le_trans (P.4.small c.if-near-all.false) (most_small S.args.m.now S.args.q.now S.args.j P.1) }

pub whole-requires : goal.whole-requires
whole-requires c = c.requires.1

pub returns : goal.returns
unfolding near_reached side_code side_choices
returns c =
    let total_is : let A = c.args in
    to_z w64 (of_z w64 c.lowered.result) ≡ lowered A.m.now A.q.now A.j A.near.total = to_z-of_z w64 c.lowered.result (record { sfits = c.lowered.type_inv }) ∙ c.lowered.ensures in
    let S = c in
    let M = model_in S.args.m.now in
    let e = ne_eqb S.args.near.place S.args.all c.if-near-all.false in
    let n = c.steps.ensures in
    let x = c.nth-size.ensures in
    let size = x.value ∙ ap (λ (i : ℕ). length (choices i (plan_at M i S.args.s S.args.near.place))) n in record { value = rw (e, total_is, c.whole.ensures.value, size) refl; frame = rw e (x.frame ∙ ap (λ (i : ℕ). splice S.args.choices.now 0 (choices i (plan_at M i S.args.s S.args.near.place))) n) }
