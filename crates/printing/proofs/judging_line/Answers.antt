-- A refusal of judge, or the verdict with the choices of the shown plan.
-- Where judge is not refused.
use mathlib.Core.Path.{ap, sym, ◌∙◌, ◌≡◌}
use Rattle.verdict_line.specs.Line.{refused_line}
use lib.ListN.{length}
use lib.Seq.{length-take-le}
use Rattle.verdict_line.specs.promises.Chain.{line_of}
use Rattle.printing.proofs.LineAfterCall.{judge_refused}
use Rattle.verdict_line.proofs.PutInTurn.{put_as}
use Rattle.printing.proofs.CutToShown.{Printable, printable}
use borrow.Author.Rules.{rules}
use Rattle.printing.proofs.judging_line.Goals as goal

pub slice_bounds-choices-end : goal.slice_bounds-choices-end
slice_bounds-choices-end c =
    let printed : Printable c.args.model.now c.args.q.now c.judge-answer.result c.in-Ok.v c.shown_choices-count.result = let S = c in
    let n : length c.judge-answer.result.choices ≡ 1365 = search rules in
    printable S.args.d S.args.model.now S.args.q.now S.requires.1 c.judge-answer.result c.judge-answer.ensures _ c.in-Ok.is n c.shown_choices-count.result c.shown_choices-count.ensures in
    printed.inside

pub slice_bounds-verdict_line-end : goal.slice_bounds-verdict_line-end
slice_bounds-verdict_line-end c =
    let printed : Printable c.args.model.now c.args.q.now c.judge-answer.result c.in-Ok.v c.shown_choices-count.result = let S = c in
    let n : length c.judge-answer.result.choices ≡ 1365 = search rules in
    printable S.args.d S.args.model.now S.args.q.now S.requires.1 c.judge-answer.result c.judge-answer.ensures _ c.in-Ok.is n c.shown_choices-count.result c.shown_choices-count.ensures in
    sym (length-take-le c.shown_choices-count.result c.judge-answer.result.choices printed.inside)

pub verdict_line-requires : goal.verdict_line-requires
verdict_line-requires c =
    let printed : Printable c.args.model.now c.args.q.now c.judge-answer.result c.in-Ok.v c.shown_choices-count.result = let S = c in
    let n : length c.judge-answer.result.choices ≡ 1365 = search rules in
    printable S.args.d S.args.model.now S.args.q.now S.requires.1 c.judge-answer.result c.judge-answer.ensures _ c.in-Ok.is n c.shown_choices-count.result c.shown_choices-count.ensures in
    (c.requires.0, printed.shown)

pub returns-in-Err : goal.returns-in-Err
unfolding line_of
returns-in-Err c = let S = c in
    put_as (ap refused_line c.number.ensures ∙ sym (ap line_of (judge_refused S.args.d S.args.model.now S.args.q.now S.requires.1 c.judge-answer.result c.judge-answer.ensures _ c.in-Err.is))) c.refused_line.ensures

pub returns-in-Ok : goal.returns-in-Ok
returns-in-Ok c =
    let printed : Printable c.args.model.now c.args.q.now c.judge-answer.result c.in-Ok.v c.shown_choices-count.result = let S = c in
    let n : length c.judge-answer.result.choices ≡ 1365 = search rules in
    printable S.args.d S.args.model.now S.args.q.now S.requires.1 c.judge-answer.result c.judge-answer.ensures _ c.in-Ok.is n c.shown_choices-count.result c.shown_choices-count.ensures in
    put_as printed.line c.verdict_line.ensures
