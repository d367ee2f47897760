-- `whole`: the denominator is at most 100 and the steps at most 6.
use Prim.Native.Nat.{◌^◌, ◌≤◌}
use native.Mathlib.Omega.{arith}
use mathlib.Core.Path.{sym, ap₂, subst, ◌∙◌}
use Rattle.bounds.proofs.ProductsFit.{small, compares, few, whole_small}
use Rattle.bounds.proofs.whole.Goals as goal

pub steps-requires : goal.steps-requires
steps-requires c = let S = c in few S.args.m.now S.args.q.now S.args.j S.requires

pub power-requires : goal.power-requires
power-requires c = let S = c in
    let b = S.requires in
    (omega (arith, c.denominator.ensures, small S.args.m.now S.args.q.now S.args.j b), omega (arith, c.steps.ensures, (compares S.args.m.now S.args.q.now S.args.j b).few_steps))

pub returns : goal.returns
returns c = let S = c in
    let e = c.power.ensures ∙ ap₂ ◌^◌ c.denominator.ensures c.steps.ensures in record { value = e; range = subst (λ x. x ≤ 100 ^ 6) (sym e) (whole_small S.args.m.now S.args.q.now S.args.j S.requires) }
