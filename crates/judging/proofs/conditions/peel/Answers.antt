-- The node reached means the same as c, and what is left of it is left of c.
use mathlib.Core.Path.{subst}
use Rattle.judging.specs.promises.Conditions.{Peels}
use Rattle.judging.proofs.PeeledMeaning.{alike_on, peels_on}
use Rattle.judging.proofs.conditions.peel.Goals as goal

pub returns-then-at-node : goal.returns-then-at-node
returns-then-at-node c =
    let A = c.args in
    subst (Peels A.q.now A.truth.now A.c A.s) c.in_ok-node.was (peels_on c.loop-node.invariant c.peel_one.ensures)

pub loop-node-preserved : goal.loop-node-preserved
loop-node-preserved c = alike_on c.loop-node.invariant c.peel_one.ensures c.in_ok-node.was
