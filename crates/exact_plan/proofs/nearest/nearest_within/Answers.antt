-- `nearest_within`: the list stands at the front of the buffer, and is searched once for each side.
use mathlib.Core.Path.{subst}
use mathlib.Core.Bool.{true, false}
use lib.ListN.{length}
use Rattle.exact_plan.specs.promises.Sides.{NearestIn}
use Rattle.exact_plan.proofs.nearest.nearest_within.Goals as goal

pub totals-len-requires : goal.totals-len-requires
totals-len-requires c = record { given = c.requires.given; d_le_n = c.requires.d_le_n }

pub returns : goal.returns
returns c = let A = c.args in
    let listed = c.totals-len.ensures.listed in
    record {
      lower = subst (λ l. NearestIn l (length l) (length l) false A.x c.nearest_in.result) listed c.nearest_in.ensures;
      upper = subst (λ l. NearestIn l (length l) (length l) true A.x c.nearest_in-2.result) listed c.nearest_in-2.ensures;
    }
