-- The four parts are the definition; the sizes put each range inside the head.
use Rattle.std.proofs.Common.{arith, rules}
use Rattle.blocks.proofs.RangeTests.{blocks_within}
use Rattle.models.specs.Grounds.{action_spare, head_spare}
use Rattle.models.proofs.EveryCell.{sizes, sized}
use Rattle.models.proofs.spare.head_spare.Goals as goal

pub zeros-requires : goal.zeros-requires
zeros-requires c = let z = sizes c.args.b.now c.requires.0.sizes in let l = blocks_within c.args.b.now 2 12 c.requires.0.whole in omega arith

pub overflow_sub-masks : goal.overflow_sub-masks
overflow_sub-masks c = let z = sizes c.args.b.now c.requires.0.sizes in omega arith

pub zeros-requires-2 : goal.zeros-requires-2
zeros-requires-2 c = let z = sizes c.args.b.now c.requires.0.sizes in let l = blocks_within c.args.b.now 2 12 c.requires.0.whole in omega arith

pub all_pass-requires : goal.all_pass-requires
all_pass-requires c = λ k h. let z = sized c.args.b.now c.requires.0.whole c.requires.0.sizes c.requires.1 in let posts = z.posts k in search rules

pub overflow_sub-end : goal.overflow_sub-end
overflow_sub-end c = let z = sizes c.args.b.now c.requires.0.sizes in omega arith

pub zeros-requires-3 : goal.zeros-requires-3
zeros-requires-3 c = let z = sizes c.args.b.now c.requires.0.sizes in let l = blocks_within c.args.b.now 2 12 c.requires.0.whole in omega arith

pub returns : goal.returns
unfolding head_spare
returns c = let actions = c.all_pass.ensures (action_spare c.args.b.now) (λ k r h p. search rules) in cc
