-- The invariant: the marked nodes below i are listed. The condition, which is marked, is listed last.
use Prim.Native.Nat.{ℕ}
use native.Mathlib.Omega.{arith}
use mathlib.Core.Path.{subst}
use Rattle.relevance.specs.promises.Chosen.{Listed}
use Rattle.relevance.proofs.ConeListed.{listed_cone}
use Rattle.relevance.proofs.cone.Goals as goal

pub returns : goal.returns
returns c =
    let P = c.requires in
    let L = c.loop-i in
    let all = subst (λ (i : ℕ). Listed c.chosen-marks.result i L.n L.out) (omega arith) L.invariant.1 in
    listed_cone P.0 c.chosen-marks.ensures P.1 all L.invariant.0
