-- The invariant: the rows of the nodes passed are right where they are needed.
use Prim.Native.Nat.{◌*◌, ◌-◌}
use native.Mathlib.Omega.{arith}
use mathlib.Core.Path.{◌≡◌, sym, subst}
use Rattle.questions.specs.Layout.{node_count}
use Rattle.judging.specs.promises.Truth.{Right}
use Rattle.judging.proofs.TruthByOperator.{rows_none}
use Rattle.judging.proofs.truth.truth_table.Goals as goal

pub count-end-requires : goal.count-end-requires
count-end-requires c = tt

pub overflow_sub-end : goal.overflow_sub-end
overflow_sub-end c = omega (arith, c.count-end.ensures, c.requires.0.given.nodes.formed.some_node)

pub loop-j-init : goal.loop-j-init
loop-j-init c = rows_none c.requires.1

pub slice_bounds-node_truth-end : goal.slice_bounds-node_truth-end
slice_bounds-node_truth-end c = sym c.loop-j.invariant.room

pub node_truth-requires : goal.node_truth-requires
node_truth-requires c = let P = c.requires in
    let L = c.loop-j in record { asked = (P.0, omega (arith, c.count-end.ensures)); rows = L.invariant }

pub loop-j-preserved : goal.loop-j-preserved
loop-j-preserved c = c.node_truth.ensures

pub returns : goal.returns
returns c = let S = c in
    let L = c.loop-j in
    let e : 32 * L.j ≡ 32 * (node_count S.args.q.now - 1) = omega (arith, c.count-end.ensures) in
    subst (Right S.args.m.now S.args.q.now S.args.need.now L.truth) e L.invariant.right
