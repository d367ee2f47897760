-- The three numbers of relations are those of a range.
use mathlib.Core.Path.{ap, ◌∙◌}
use Rattle.std.specs.Prelude.{is_ok}
use Rattle.questions.proofs.OperatorRead.{relation_within}
use Rattle.questions.proofs.relation_in_range.Goals as goal

pub returns : goal.returns
returns c = c.is_ok.ensures.value ∙ ap is_ok c.try_from.ensures ∙ relation_within c.args.relation
