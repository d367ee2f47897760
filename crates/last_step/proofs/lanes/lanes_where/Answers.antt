-- The invariant: the lanes from k up are made.
use Prim.Native.Nat.{◌+◌, ◌*◌}
use native.Mathlib.Omega.{arith}
use mathlib.Core.Path.{◌≡◌, ap, ◌∙◌}
use Rattle.logic.specs.Bound.{one_if}
use Rattle.evaluation.proofs.Integers.{byte_is}
use Rattle.last_step.proofs.LaneByLane.{built_more, room_more}
use Rattle.last_step.proofs.lanes.lanes_where.Goals as goal

pub loop-k-preserved : goal.loop-k-preserved
loop-k-preserved g c =
    let S = c in
    let L = c.loop-k in
    let word = ap (◌+◌ (2 * L.x)) (c.from.ensures ∙ byte_is c.asks.result) in
    (room_more c.loop-k-test.true (omega arith) L.invariant.0 c.asks.result word, λ f h. built_more f _ c.loop-k-test.true (omega arith) (L.invariant.1 f h) word (h _ _ (omega arith) c.asks.ensures))

pub returns : goal.returns
returns g c =
    let L = c.loop-k in
    λ f h k l.
    let here : L.k + k ≡ k = omega arith in
    (L.invariant.1 f h).right k (omega arith) ∙ ap (λ i. one_if (f i)) here
