use Prim.Native.Nat.{◌*◌}
use lib.ListN.{length, take}
use Rattle.exact_plan.specs.promises.Totals.{grid}
use Rattle.exact_plan.specs.promises.Listing.{First}
use Rattle.exact_plan.proofs.search.first_sum.Given as goal

abbrev pub invariant-loop-i : goal.invariant-loop-i
invariant-loop-i l = First (grid (take l.i l.slow) l.fast) l.x (l.i * length l.fast)
