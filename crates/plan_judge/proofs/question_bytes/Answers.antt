use mathlib.Core.Path.{sym, ap}
use Rattle.plan_judge.specs.View.{question_block}
use Rattle.plan_judge.proofs.question_bytes.Goals as goal

pub returns-in-Some : goal.returns-in-Some
unfolding question_block
returns-in-Some c = sym (ap question_block c.in-Some.is)

pub returns-in-None : goal.returns-in-None
unfolding question_block
returns-in-None c = sym (ap question_block c.in-None.is)
