-- The model's first ground, then the question's.
use mathlib.Core.Path.{sym, ap, ◌∙◌}
use Rattle.refusals.proofs.Named.{number_some}
use Rattle.verdict_line.specs.Line.{refused_line}
use Rattle.verdict_line.specs.Reasons.{whynot_says}
use Rattle.verdict_line.proofs.PutInTurn.{put_as}
use Rattle.explaining.proofs.PreparedInput.{load_refused, put_refused, past_both}
use Rattle.explaining.proofs.loading_text.Goals as goal

pub returns-in-Err : goal.returns-in-Err
returns-in-Err c =
    put_as (ap refused_line c.number.ensures ∙ load_refused whynot_says c.args.model.now c.args.q.now c.in-Err.ensures (number_some _)) c.refused_line.ensures

pub returns-in-Err-accept_question : goal.returns-in-Err-accept_question
returns-in-Err-accept_question c =
    put_as
    (ap refused_line c.number-in-Err-accept_question.ensures
    ∙ put_refused whynot_says c.args.model.now c.args.q.now (sym c.in_default.ensures) c.in-Err-accept_question.ensures (number_some _))
    c.refused_line-in-Err-accept_question.ensures

pub judging_text-requires : goal.judging_text-requires
judging_text-requires c = record { in_bounds = c.requires; model_value = (sym c.in_default.ensures, sym c.in_default-accept_question.ensures) }

pub returns : goal.returns
returns c = put_as (past_both whynot_says c.args.model.now c.args.q.now (sym c.in_default.ensures) (sym c.in_default-accept_question.ensures)) c.judging_text.ensures
