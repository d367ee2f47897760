-- The nodes passed have their new cells and their depths.
use Prim.Native.Nat.{ℕ, ◌<◌}
use native.Mathlib.Omega.{arith}
use mathlib.Core.Path.{◌≡◌, ap, subst, ◌∙◌}
use mathlib.Core.List.{List}
use lib.ListN.{get_or}
use Rattle.logic.specs.Formula.{depth}
use Rattle.blocks.specs.Bytes.{Bytes}
use Rattle.questions.specs.Layout.{node_count, formulas_of}
use Rattle.questions.specs.promises.Tables.{table}
use Rattle.questions.proofs.TableNodeByNode.{table_at}
use Rattle.prepared_question.specs.promises.Nodes.{formula}
use Rattle.prepared_question.specs.promises.Replaced.{Pointed}
use Rattle.prepared_question.proofs.SameNodeByNode.{shared_question}
use Rattle.prepared_question.proofs.prepare_question.Goals as goal

depth_at : (q : Bytes) (ds : List ℕ) (i : ℕ) → ds ≡ table depth (formulas_of q) → i < 40 → get_or ds i 0 ≡ depth (formula q i)
unfolding depth
depth_at q ds i e h = ap (λ t. get_or t i 0) e ∙ table_at depth q (formulas_of q) i h

pub overflow_cast-d : goal.overflow_cast-d
overflow_cast-d c =
    let i = c.loop-i.i in
    let l : i < node_count c.args.q.now = omega (arith, c.node_count-i-end.ensures) in
    let e = depth_at c.args.q.now c.depth_table-depths.result i c.depth_table-depths.ensures (omega (arith, c.requires.few)) in
    rw (c.from.ensures, e) (omega (arith, c.requires.deep i l))

pub put-requires : goal.put-requires
put-requires c =
    let i = c.loop-i.i in
    let l : i < node_count c.args.q.now = omega (arith, c.node_count-i-end.ensures) in
    (c.requires, l, c.loop-i.invariant, rw c.from.ensures (depth_at c.args.q.now c.depth_table-depths.result i c.depth_table-depths.ensures (omega (arith, l, c.requires.few))))

pub returns : goal.returns
returns c = let L = c.loop-i in
    let e : L.i ≡ node_count c.args.q.now = omega (arith, c.node_count-i-end.ensures) in
    shared_question c.requires (subst (Pointed c.args.q.now L.b) e L.invariant)
