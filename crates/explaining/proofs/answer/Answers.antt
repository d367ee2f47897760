-- By the parts of the input, or by its length where it has none.
use Rattle.verdict_line.proofs.PutInTurn.{put_as}
use Rattle.verdict_line.specs.Reasons.{whynot_says}
use Rattle.verdict_line.proofs.TextByLength.{no_parts, both_parts}
use Rattle.explaining.proofs.answer.Goals as goal

pub returns-in-Some : goal.returns-in-Some
returns-in-Some c =
    let p = c.in-Some.ensures in
    put_as (both_parts whynot_says c.args.input.now p.0 p.1 p.2) c.loading_text.ensures

pub returns-in-None : goal.returns-in-None
returns-in-None c = put_as (no_parts whynot_says c.args.input.now c.in-None.ensures) c.refused_line.ensures
