-- Each lane asks whether the gain with its outcome's reward stands in the relation to the bound.
use Prim.Native.Nat.{ℕ, ◌/◌, ◌%◌}
use mathlib.Core.Bool.{Bool}
use lib.IntN.{◌+ℤ◌, ◌-ℤ◌}
use borrow.Author.Rules.{rules}
use Rattle.logic.specs.Formula.{relation}
use Rattle.logic.specs.Quantity.{integers, related}
use Rattle.prepared_model.specs.promises.Rows.{step_in}
use Rattle.last_step.proofs.LaneByLane.{laned}
use Rattle.last_step.proofs.lanes.gained.Goals as goal

pub returns : goal.returns
returns c =
    let S = c in
    let A = S.args in
    let holds : ℕ → ℕ → Bool = λ i o. related integers (relation A.kind) ((A.after -ℤ A.before) +ℤ (step_in A.m.now A.s i o).reward) A.bound in
    laned S.requires.0 A.s S.requires.1 holds c.lanes_where.result (c.lanes_where.ensures (λ k. holds (k / 4) (k % 4)) (λ k t l e. search rules))
