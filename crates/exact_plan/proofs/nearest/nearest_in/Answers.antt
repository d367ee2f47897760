-- The nearest of the numbers before i.
use native.Mathlib.Omega.{arith}
use mathlib.Core.Path.{◌≡◌, refl, sym, subst, ◌∙◌}
use lib.ListN.{length}
use Rattle.exact_plan.specs.promises.Sides.{NearestIn}
use Rattle.exact_plan.proofs.NearestPlace.{none_yet, won, lost}
use Rattle.exact_plan.proofs.nearest.nearest_in.Goals as goal
use Rattle.exact_plan.proofs.nearest.nearest_in.Goals.{then-wins, else-wins}

pub loop-place-init : goal.loop-place-init
loop-place-init c = let A = c.args in none_yet A.list.now (length A.list.now) A.above A.x refl

pub loop-place-preserved : goal.loop-place-preserved
loop-place-preserved c = let A = c.args in
    let L = c.loop-place in
    let t = c.loop-place-test.true in
    let w = c.wins.ensures in
    elim c.if-wins.branch [
      | then-wins k ↦ rw k.best-is (won A.list.now (length A.list.now) A.above A.x t L.invariant refl (sym w ∙ k.if-wins.true))
      | else-wins k ↦ rw k.best-is (lost A.list.now (length A.list.now) A.above A.x t L.invariant refl (sym w ∙ k.if-wins.false))
    ]

pub returns : goal.returns
returns c = let A = c.args in
    let L = c.loop-place in
    let e : L.place ≡ length A.list.now = omega arith in
    subst (λ i. NearestIn A.list.now i (length A.list.now) A.above A.x L.best) e L.invariant
