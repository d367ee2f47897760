use Prim.Native.Nat.{ℕ, ◌*◌, ◌-◌, ◌^◌, ◌<◌}
use mathlib.Core.Path.{◌≡◌}
use mathlib.Core.Bool.{Bool}
use Rattle.prepared_model.specs.promises.Rows.{choices_in}
use Rattle.last_step.proofs.LaneByLane.{Built}
use Rattle.last_step.proofs.lanes.lanes_where.Given as goal

abbrev pub invariant-loop-k : goal.invariant-loop-k
invariant-loop-k g l =
    let n = 4 * choices_in l.m l.s in
    (l.x < 2 ^ (n - l.k)) × ((f : ℕ → Bool) → ((k : ℕ) (t : Bool) → k < n → goal.F-post g l.asks k t → t ≡ f k) → Built f n l.k l.x)
