use Rattle.std.proofs.Common.{rules, refl}
use borrow.Author.Tests.{tests}
use Rattle.blocks.specs.Block.{block_count, headed}
use Rattle.blocks.proofs.EveryInRange.{every_from_all}
use Rattle.sheets.proofs.headings_right.Goals as goal

pub returns : goal.returns
unfolding block_count
returns c = every_from_all (λ k. headed c.args.b.now k 4 k) c.all.ensures.ran refl (λ x b q k. search (rules, tests))
