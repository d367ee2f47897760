-- Each lane asks for the truth in its outcome's target.
use Prim.Native.Nat.{ℕ, ◌+◌, ◌*◌, ◌/◌, ◌%◌}
use mathlib.Core.Bool.{Bool, not}
use lib.Dec.{eqb}
use borrow.Author.Rules.{rules}
use Rattle.blocks.specs.Bytes.{byte}
use Rattle.prepared_model.specs.promises.Rows.{step_in}
use Rattle.last_step.proofs.LaneByLane.{laned}
use Rattle.last_step.proofs.lanes.told.Goals as goal

pub returns : goal.returns
returns c =
    let S = c in
    let A = S.args in
    let holds : ℕ → ℕ → Bool = λ i o. not (eqb (byte A.truth.now (32 * A.j + (step_in A.m.now A.s i o).target)) 0) in
    laned S.requires.0 A.s S.requires.1 holds c.lanes_where.result (c.lanes_where.ensures (λ k. holds (k / 4) (k % 4)) (λ k t l e. search rules))
