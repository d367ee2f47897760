-- The head and the row blocks, as in the definition. Ground 1 says that there is a head before the rows, and how many blocks there are.
use Rattle.std.proofs.Common.{◌+◌, arith, rules, ap₂, ◌&&◌}
use Rattle.blocks.specs.Block.{headed, block_count}
use Rattle.blocks.proofs.RangeTests.{blocks_within}
use Rattle.models.specs.Grounds.{kinds_right}
use Rattle.models.proofs.kinds_right.Goals as goal

pub overflow_sub-b : goal.overflow_sub-b
overflow_sub-b c = omega (arith, blocks_within c.args.b.now 2 12 c.requires)

pub all_pass-requires : goal.all_pass-requires
all_pass-requires c = λ k h. let few = blocks_within c.args.b.now 2 12 c.requires in search rules

pub returns : goal.returns
unfolding kinds_right block_count
returns c =
    let b = c.args.b.now in
    ap₂ ◌&&◌ c.headed.ensures (c.all_pass.ensures (λ k. headed b (k + 1) 2 (k + 1)) (λ k r h p. search rules))
