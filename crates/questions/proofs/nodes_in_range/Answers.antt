use Rattle.std.proofs.Common.{rules}
use borrow.Author.Tests.{tests}
use Rattle.questions.specs.Layout.{node_of}
use Rattle.questions.specs.Grounds.{node_in_range}
use Rattle.blocks.proofs.EveryInRange.{every_from_all}
use Rattle.questions.proofs.nodes_in_range.Goals as goal

pub returns : goal.returns
returns c = every_from_all (λ i. node_in_range c.args.actions c.args.props i (node_of c.args.b.now i)) c.all.ensures.ran c.node_count.ensures (λ x b q k. search (rules, tests))
