-- That the marks of the nodes before the root decide ground 13 is `marks_tell`.
use Rattle.std.proofs.Common.{rules, get_or, ◌∙◌}
use borrow.Author.Tests.{tests}
use lib.Dec.{eqb}
use Rattle.questions.proofs.AllReached.{marks_tell}
use Rattle.blocks.proofs.EveryInRange.{every_from_all}
use Rattle.questions.proofs.used.all_reached.Goals as goal

pub returns : goal.returns
returns c = every_from_all (λ k. eqb (get_or c.children_marked-marks.result k 0) 1) c.all.ensures.ran c.root.ensures (λ x b q k. search (rules, tests))
    ∙ marks_tell c.args.b.now c.requires c.children_marked-marks.ensures
