use Prim.Native.Nat.{◌+◌, ◌-◌, ◌≤◌}
use mathlib.Core.Path.{◌≡◌}
use mathlib.Core.List.{◌++◌}
use lib.ListN.{length, take}
use Rattle.prepared_model.specs.promises.Rows.{choices_in}
use Rattle.exact_plan.specs.promises.Last.{lane_totals}
use Rattle.exact_plan.proofs.last.by_lanes.Given as goal

abbrev pub invariant-loop-i : goal.invariant-loop-i
invariant-loop-i l =
    (l.n ≡ choices_in l.m l.spot.s) × (l.i ≤ l.n) × (length l.buf ≡ length l.initial.buf) × (l.len ≡ length (lane_totals l.m l.spot.s (l.spot.k - 1) l.x l.i))
    × (take (l.spot.at + l.len) l.buf ≡ take l.spot.at l.initial.buf ++ lane_totals l.m l.spot.s (l.spot.k - 1) l.x l.i)
