-- A refusal of load, or what is left to do on the desk that it gives back.
-- Where load is done.
use mathlib.Core.Path.{sym, ap, ◌∙◌}
use Rattle.verdict_line.specs.Line.{refused_line}
use Rattle.verdict_line.specs.promises.Chain.{line_of}
use Rattle.printing.specs.promises.Printed.{Loaded}
use Rattle.printing.proofs.LineAfterCall.{load_refused, load_done, loading_is}
use Rattle.verdict_line.proofs.PutInTurn.{put_as}
use Rattle.printing.proofs.loading_line.Goals as goal

pub asking_line-requires : goal.asking_line-requires
asking_line-requires c =
    let loaded : Loaded c.load-answer.result.desk c.args.model.now = load_done c.empty.result c.args.model.now c.load-answer.result c.empty.ensures c.load-answer.ensures c.in-Ok.is in
    (c.requires, loaded)

pub returns-in-Err : goal.returns-in-Err
unfolding line_of
returns-in-Err c = let S = c in
    put_as (ap refused_line c.number.ensures ∙ sym (ap line_of (load_refused c.empty.result S.args.model.now c.load-answer.result c.empty.ensures c.load-answer.ensures _ c.in-Err.is S.args.q.now))) c.refused_line.ensures

pub returns-in-Ok : goal.returns-in-Ok
returns-in-Ok c =
    let loaded : Loaded c.load-answer.result.desk c.args.model.now = load_done c.empty.result c.args.model.now c.load-answer.result c.empty.ensures c.load-answer.ensures c.in-Ok.is in
    let S = c in
    put_as (sym (ap line_of (loading_is S.args.model.now loaded.model S.args.q.now))) c.asking_line.ensures
