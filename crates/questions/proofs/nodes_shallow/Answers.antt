use Rattle.std.proofs.Common.{rules, get_or}
use borrow.Author.Tests.{tests}
use Rattle.logic.specs.Formula.{shallow, never}
use Rattle.questions.specs.Layout.{formulas_of}
use Rattle.blocks.proofs.EveryInRange.{every_from_all}
use Rattle.questions.proofs.nodes_shallow.Goals as goal

pub returns : goal.returns
returns c = every_from_all (λ i. shallow (get_or (formulas_of c.args.b.now) i never)) c.all.ensures.ran c.node_count.ensures (λ x b q k. search (rules, tests))
