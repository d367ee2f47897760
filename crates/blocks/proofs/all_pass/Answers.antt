use Rattle.std.proofs.Common.{refl}
use Rattle.logic.specs.Lists.{every}
use Rattle.logic.proofs.Tests.{every_more}
use Rattle.blocks.proofs.all_pass.Goals as goal

pub loop-k-init : goal.loop-k-init
unfolding every
loop-k-init g c = λ test h. refl

pub loop-k-preserved : goal.loop-k-preserved
loop-k-preserved g c =
    λ test h. every_more test c.loop-k.k (c.loop-k.invariant test h) (h c.loop-k.k c.passes-right.result c.loop-k-test.true c.passes-right.ensures)
