-- Each lane asks for the action of its outcome's choice.
use Prim.Native.Nat.{◌/◌}
use lib.Dec.{eqb}
use borrow.Author.Rules.{rules}
use Rattle.prepared_model.specs.promises.Rows.{choice_in}
use Rattle.last_step.proofs.LaneByLane.{laned}
use Rattle.last_step.proofs.lanes.done.Goals as goal

pub returns : goal.returns
returns c =
    let S = c in
    let A = S.args in
    laned S.requires.0 A.s S.requires.1 (λ i o. eqb (choice_in A.m.now A.s i) A.a) c.lanes_where.result
    (c.lanes_where.ensures (λ k. eqb (choice_in A.m.now A.s (k / 4)) A.a) (λ k t l e. search rules))
