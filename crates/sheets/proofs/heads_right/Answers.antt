use Rattle.std.proofs.Common.{rules, refl}
use borrow.Author.Tests.{tests}
use Rattle.blocks.specs.Block.{block_count}
use Rattle.sheets.specs.Grounds.{head_right}
use Rattle.blocks.proofs.EveryInRange.{every_from_all}
use Rattle.sheets.proofs.heads_right.Goals as goal

pub returns : goal.returns
unfolding block_count
returns c = every_from_all (head_right c.args.n c.args.start c.args.b.now) c.all.ensures.ran refl (λ x b q k. search (rules, tests))
