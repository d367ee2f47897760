use mathlib.Core.Path.{◌∙◌}
use Rattle.evaluation.proofs.Integers.{byte_is}
use Rattle.evaluation.proofs.bit.Goals as goal

pub returns : goal.returns
returns c = c.from.ensures ∙ byte_is c.args.t
