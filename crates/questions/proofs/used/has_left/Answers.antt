use Rattle.questions.proofs.ChildrenMarked.{has_left_is}
use Rattle.questions.proofs.used.has_left.Goals as goal

pub returns : goal.returns
returns c = has_left_is c.args.op
