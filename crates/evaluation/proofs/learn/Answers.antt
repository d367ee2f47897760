use mathlib.Core.Path.{refl}
use Rattle.evaluation.specs.promises.Learnt.{learnt}
use Rattle.evaluation.proofs.LearntInOrder.{learnt_more}
use Rattle.evaluation.proofs.learn.Goals as goal

pub loop-j-init : goal.loop-j-init
unfolding learnt
loop-j-init c = refl

pub loop-j-preserved : goal.loop-j-preserved
loop-j-preserved c =
    let S = c in
    let L = c.loop-j in
    learnt_more S.args.q.now S.args.truth.now S.args.trail.now S.args.gains.now S.args.h S.args.s S.args.cone.now L.j-index L.v S.args.v.now _ c.loop-j-test.true L.invariant c.learn_node.ensures
