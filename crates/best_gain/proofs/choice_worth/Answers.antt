-- `choice_worth`: the sum over the first o outcomes. What the first o outcomes add.
use Prim.Native.Nat.{◌+◌, ◌*◌, ◌^◌, ◌≤◌}
use native.Mathlib.Omega.{arith}
use mathlib.Core.Path.{◌≡◌, refl, sym, ap, ap₂, subst, ◌∙◌}
use Rattle.blocks.specs.Block.{sum_below}
use Rattle.prepared_model.specs.promises.Rows.{outcomes_in}
use Rattle.best_gain.proofs.TableRows.{weighed, sum_fits, worth_all, next_sum}
use Rattle.best_gain.proofs.choice_worth.Invariants.{so_far}
use Rattle.best_gain.proofs.choice_worth.Goals as goal

pub loop-o-init : goal.loop-o-init
unfolding sum_below
loop-o-init c = refl

pub overflow_add-sum : goal.overflow_add-sum
overflow_add-sum c =
    let product_is : (let S = c in
    c.weight.result * c.outcome_worth.result ≡ weighed S.requires.0 S.requires.3 S.requires.1 S.args.i c.loop-o.o) = ap₂ ◌*◌ c.weight.ensures.value c.outcome_worth.ensures.value in
    let next_is : (let S = c in let L = c.loop-o in
    L.sum + c.weight.result * c.outcome_worth.result ≡ so_far S.args.m.now S.args.best.now S.args.at S.args.unit S.args.s S.args.i (L.o + 1)) = let S = c in
    let L = c.loop-o in
    next_sum (weighed S.requires.0 S.requires.3 S.requires.1 S.args.i) L.o L.invariant product_is in
    let next_fits : c.loop-o.sum + c.weight.result * c.outcome_worth.result ≤ 12000 * 100 ^ 6 = let S = c in
    let L = c.loop-o in
    subst (λ x. x ≤ 12000 * 100 ^ 6) (sym next_is) (sum_fits S.requires.0 S.requires.3 S.requires.1 S.args.i S.requires.2 (L.o + 1) (omega (arith, c.outcomes-o-end.ensures, c.loop-o-test.true))) in
    record { fits = omega (arith, next_fits) }

pub loop-o-preserved : goal.loop-o-preserved
loop-o-preserved c =
    let product_is : (let S = c in
    c.weight.result * c.outcome_worth.result ≡ weighed S.requires.0 S.requires.3 S.requires.1 S.args.i c.loop-o.o) = ap₂ ◌*◌ c.weight.ensures.value c.outcome_worth.ensures.value in
    let next_is : (let S = c in let L = c.loop-o in
    L.sum + c.weight.result * c.outcome_worth.result ≡ so_far S.args.m.now S.args.best.now S.args.at S.args.unit S.args.s S.args.i (L.o + 1)) = let S = c in
    let L = c.loop-o in
    next_sum (weighed S.requires.0 S.requires.3 S.requires.1 S.args.i) L.o L.invariant product_is in
    next_is

pub returns : goal.returns
returns c = let S = c in
    let L = c.loop-o in
    let e : L.o ≡ outcomes_in S.args.m.now S.args.s S.args.i = omega (arith, c.outcomes-o-end.ensures, c.loop-o-test.false) in
    L.invariant ∙ ap (so_far S.args.m.now S.args.best.now S.args.at S.args.unit S.args.s S.args.i) e ∙ worth_all S.requires.0 S.requires.3 S.requires.1 S.args.i S.requires.2
