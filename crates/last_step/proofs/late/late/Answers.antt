-- The invariant: a marked node has passed its mark on, or stands in the cone before place i.
use Prim.Native.Nat.{◌-◌}
use native.Mathlib.Omega.{arith}
use mathlib.Core.Path.{subst}
use Rattle.last_step.proofs.LateMarks.{Passing, passing_start, passing_more}
use Rattle.last_step.proofs.late.late.Goals as goal

pub loop-i-init : goal.loop-i-init
loop-i-init c = passing_start c.requires

pub loop-i-preserved : goal.loop-i-preserved
loop-i-preserved c =
    let S = c in
    let L = c.loop-i in
    passing_more S.requires (L.i - 1) (omega arith) (subst (Passing S.args.q.now S.args.cone.now L.marks) (omega arith) L.invariant) c.pass_on.ensures
