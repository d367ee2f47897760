-- `search::ends_of`: the bounds of the numbers passed.
use native.Mathlib.Omega.{arith}
use mathlib.Core.Path.{◌≡◌, subst}
use lib.ListN.{length}
use Rattle.exact_plan.proofs.SumsByRows.{Bounded, bounded_more, bounded_between}
use Rattle.exact_plan.proofs.search.ends_of.Goals as goal

pub loop-y-preserved : goal.loop-y-preserved
loop-y-preserved c = bounded_more c.args.list.now c.loop-y.invariant c.min-low.ensures c.max-high.ensures

pub returns : goal.returns
returns c =
    let A = c.args in
    let L = c.loop-y in
    let e : L.y-index ≡ length A.list.now = omega arith in
    bounded_between A.list.now (subst (Bounded A.list.now L.low L.high) e L.invariant)
