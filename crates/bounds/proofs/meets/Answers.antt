-- `meets`: a bound is met just where its relation is the lamp's.
use Prim.Native.Nat.{ℕ}
use native.Mathlib.Omega.{arith}
use mathlib.Core.Path.{sym, ap, ap₂, ◌∙◌}
use Rattle.logic.specs.Quantity.{integers}
use Rattle.logic.specs.Formula.{relation}
use Rattle.logic.specs.promises.Lamps.{met_by_lamp}
use Rattle.logic.proofs.Integers.{integers_ordered}
use Rattle.logic.proofs.Lamps.{meets_by_lamp}
use Rattle.lamp.specs.Said.{said_lamp}
use Rattle.lamp.proofs.Coded.{lamp_said}
use Rattle.prepared_model.specs.promises.Rows.{model_in}
use Rattle.questions.specs.Layout.{node_of}
use Rattle.bounds.specs.promises.Bounded.{lowered, lamp_at}
use Rattle.bounds.proofs.ProductsFit.{few, compares}
use Rattle.bounds.proofs.meets.Goals as goal

pub right-requires : goal.right-requires
right-requires c = let S = c in few S.args.m.now S.args.q.now S.args.j S.requires.bounded

pub met_by_lamp-requires : goal.met_by_lamp-requires
met_by_lamp-requires c = let S = c in
    let r = compares S.args.m.now S.args.q.now S.args.j S.requires.bounded in
    (omega (arith, c.right.ensures, r.relation_from), omega (arith, c.right.ensures, r.relation_to))

pub returns : goal.returns
returns c =
    let S = c in
    let m = S.args.m.now in
    let q = S.args.q.now in
    let j = S.args.j in
    let w = lowered m q j S.args.x in
    c.met_by_lamp.ensures
    ∙ ap₂ (λ (k : ℕ) l. met_by_lamp (relation k) l) c.right.ensures (ap said_lamp c.lamp_of-l.ensures ∙ lamp_said (lamp_at m q j w))
    ∙ sym (meets_by_lamp integers (model_in m) (node_of q j).n (node_of q j).p (node_of q j).q w integers_ordered (relation (node_of q j).right))
