use Rattle.std.proofs.Common.{rules}
use borrow.Author.Tests.{tests}
use Rattle.questions.specs.Grounds.{node_spare}
use Rattle.blocks.proofs.EveryInRange.{every_from_all}
use Rattle.questions.proofs.nodes_spare.Goals as goal

pub returns : goal.returns
returns c = every_from_all (node_spare c.args.b.now) c.all.ensures.ran c.node_count.ensures (λ x b q k. search (rules, tests))
