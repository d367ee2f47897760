-- A refusal of put, or what is left to do on the desk that it gives back.
-- Where put is done.
use mathlib.Core.Path.{sym, ap, ◌∙◌}
use Rattle.verdict_line.specs.Line.{refused_line}
use Rattle.verdict_line.specs.promises.Chain.{line_of}
use Rattle.printing.specs.promises.Printed.{Asked}
use Rattle.printing.proofs.LineAfterCall.{put_refused, put_done, asking_is}
use Rattle.verdict_line.proofs.PutInTurn.{put_as}
use Rattle.printing.proofs.asking_line.Goals as goal

pub judging_line-requires : goal.judging_line-requires
judging_line-requires c =
    let asked : Asked c.put-answer.result.desk c.args.model.now c.args.q.now = put_done c.args.d c.args.model.now c.args.q.now c.requires.1 c.put-answer.result c.put-answer.ensures c.in-Ok.is in
    (c.requires.0, asked)

pub returns-in-Err : goal.returns-in-Err
unfolding line_of
returns-in-Err c = let S = c in
    put_as (ap refused_line c.number.ensures ∙ sym (ap line_of (put_refused S.args.d S.args.model.now S.args.q.now S.requires.1 c.put-answer.result c.put-answer.ensures _ c.in-Err.is))) c.refused_line.ensures

pub returns-in-Ok : goal.returns-in-Ok
returns-in-Ok c =
    let asked : Asked c.put-answer.result.desk c.args.model.now c.args.q.now = put_done c.args.d c.args.model.now c.args.q.now c.requires.1 c.put-answer.result c.put-answer.ensures c.in-Ok.is in
    let S = c in
    let a = asked in
    put_as (sym (ap line_of (asking_is S.args.model.now S.args.q.now a.model a.question))) c.judging_line.ensures
