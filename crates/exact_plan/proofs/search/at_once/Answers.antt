-- `search::at_once`: of equal numbers the first is found or none.
use native.Mathlib.Omega.{arith}
use Prim.Native.Nat.{◌*◌, ◌^◌}
use mathlib.Core.Path.{sym, subst, ◌∙◌}
use lib.ListN.{replicate, length-replicate}
use Rattle.models.specs.Layout.{denominator_of}
use Rattle.evaluation.specs.promises.Worth.{worth_known}
use Rattle.exact_plan.specs.promises.Listing.{First}
use Rattle.exact_plan.proofs.FirstPlace.{first_of_equal, none_of_equal}
use Rattle.exact_plan.proofs.search.at_once.Goals as goal

pub returns-then-alike-x : goal.returns-then-alike-x
returns-then-alike-x c =
    let A = c.args in
    let v = worth_known A.cone.now A.gains.now A.v.now A.spot.a A.spot.d * denominator_of A.m.now ^ A.spot.k in
    λ n h. (omega (arith, length-replicate n v), first_of_equal n v A.x (sym c.alike.ensures ∙ c.if-alike-x.true))

pub returns : goal.returns
returns c =
    let A = c.args in
    let v = worth_known A.cone.now A.gains.now A.v.now A.spot.a A.spot.d * denominator_of A.m.now ^ A.spot.k in
    λ n h. subst (First (replicate n v) A.x) (sym (length-replicate n v)) (none_of_equal n v A.x (λ z. c.if-alike-x.false (c.alike.ensures ∙ z)))
