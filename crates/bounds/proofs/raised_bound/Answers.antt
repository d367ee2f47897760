-- `raised_bound`: every product fits.
use Prim.Native.Nat.{◌+◌, ◌*◌, ◌^◌, ◌≤◌}
use native.Mathlib.Omega.{arith}
use mathlib.Core.Path.{◌≡◌, ap, ap₂, ◌∙◌}
use mir.Syntax.{w32}
use mir.Val.{to_z, of_z}
use Rattle.logic.specs.Formula.{nonnegative}
use Rattle.questions.specs.Layout.{node_of}
use Rattle.bounds.specs.promises.Bounded.{under}
use Rattle.bounds.proofs.ProductsFit.{up_small, down_small, lift_small}
use borrow.Author.Rules.{rules}
use Rattle.bounds.proofs.raised_bound.Goals as goal

pub overflow_mul-result : goal.overflow_mul-result
overflow_mul-result c =
    let p_read : to_z w32 (of_z w32 c.bound-p.result) ≡ (node_of c.args.q.now c.args.j).p = let z : to_z w32 (of_z w32 c.bound-p.result) ≡ c.bound-p.result = search rules in z ∙ c.bound-p.ensures in
    let above_is : c.above_zero.result ≡ nonnegative (node_of c.args.q.now c.args.j).p = c.above_zero.ensures ∙ ap nonnegative p_read in
    let up_fits : c.whole-d.result * c.above_zero.result ≤ 100 ^ 6 * 6000001 = let S = c in
    up_small S.args.m.now S.args.q.now S.args.j S.requires c.whole-d.ensures.range above_is in
    record { fits = omega (arith, up_fits) }

pub overflow_mul-result-2 : goal.overflow_mul-result-2
overflow_mul-result-2 c =
    let lift_fits : c.from-parts.result * c.lift.result ≤ 1000 * (6000 * 100 ^ 6) = let S = c in
    lift_small S.args.m.now S.args.q.now S.args.j S.requires (c.from-parts.ensures ∙ c.parts.ensures) c.lift.ensures.value in
    record { fits = omega (arith, lift_fits) }

pub overflow_add-result : goal.overflow_add-result
overflow_add-result c =
    let p_read : to_z w32 (of_z w32 c.bound-p.result) ≡ (node_of c.args.q.now c.args.j).p = let z : to_z w32 (of_z w32 c.bound-p.result) ≡ c.bound-p.result = search rules in z ∙ c.bound-p.ensures in
    let above_is : c.above_zero.result ≡ nonnegative (node_of c.args.q.now c.args.j).p = c.above_zero.ensures ∙ ap nonnegative p_read in
    let up_fits : c.whole-d.result * c.above_zero.result ≤ 100 ^ 6 * 6000001 = let S = c in
    up_small S.args.m.now S.args.q.now S.args.j S.requires c.whole-d.ensures.range above_is in
    let lift_fits : c.from-parts.result * c.lift.result ≤ 1000 * (6000 * 100 ^ 6) = let S = c in
    lift_small S.args.m.now S.args.q.now S.args.j S.requires (c.from-parts.ensures ∙ c.parts.ensures) c.lift.ensures.value in
    record { fits = omega (arith, up_fits, lift_fits) }

pub overflow_mul-result-3 : goal.overflow_mul-result-3
overflow_mul-result-3 c =
    let p_read : to_z w32 (of_z w32 c.bound-p.result) ≡ (node_of c.args.q.now c.args.j).p = let z : to_z w32 (of_z w32 c.bound-p.result) ≡ c.bound-p.result = search rules in z ∙ c.bound-p.ensures in
    let below_is : c.below_zero.result ≡ under (node_of c.args.q.now c.args.j).p = c.below_zero.ensures ∙ ap under p_read in
    let down_fits : c.whole-d.result * c.below_zero.result ≤ 100 ^ 6 * 6000001 = let S = c in
    down_small S.args.m.now S.args.q.now S.args.j S.requires c.whole-d.ensures.range below_is in
    record { fits = omega (arith, down_fits) }

pub returns : goal.returns
returns c =
    let p_read : to_z w32 (of_z w32 c.bound-p.result) ≡ (node_of c.args.q.now c.args.j).p = let z : to_z w32 (of_z w32 c.bound-p.result) ≡ c.bound-p.result = search rules in z ∙ c.bound-p.ensures in
    let above_is : c.above_zero.result ≡ nonnegative (node_of c.args.q.now c.args.j).p = c.above_zero.ensures ∙ ap nonnegative p_read in
    let below_is : c.below_zero.result ≡ under (node_of c.args.q.now c.args.j).p = c.below_zero.ensures ∙ ap under p_read in
    let up_fits : c.whole-d.result * c.above_zero.result ≤ 100 ^ 6 * 6000001 = let S = c in
    up_small S.args.m.now S.args.q.now S.args.j S.requires c.whole-d.ensures.range above_is in
    let lift_fits : c.from-parts.result * c.lift.result ≤ 1000 * (6000 * 100 ^ 6) = let S = c in
    lift_small S.args.m.now S.args.q.now S.args.j S.requires (c.from-parts.ensures ∙ c.parts.ensures) c.lift.ensures.value in
    let down_fits : c.whole-d.result * c.below_zero.result ≤ 100 ^ 6 * 6000001 = let S = c in
    down_small S.args.m.now S.args.q.now S.args.j S.requires c.whole-d.ensures.range below_is in
    let L = c in
    let d = L.whole-d.ensures.value in
    record {
      its_parts = (L.from-parts.ensures ∙ L.parts.ensures);
      its_up = ap₂ ◌+◌ (ap₂ ◌*◌ d above_is) (ap₂ ◌*◌ (L.from-parts.ensures ∙ L.parts.ensures) L.lift.ensures.value);
      its_down = ap₂ ◌*◌ d below_is;
      up_small = omega (arith, up_fits, lift_fits);
      down_small = down_fits;
    }
