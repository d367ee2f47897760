use mathlib.Core.Path.{sym, ◌∙◌}
use Rattle.plan_judge.proofs.LoadPutReturn.{padded_copy, put_unheld, put_refused, put_fits, put_done}
use Rattle.plan_judge.proofs.put.Goals as goal

pub returns-then-held_bytes-eq0 : goal.returns-then-held_bytes-eq0
returns-then-held_bytes-eq0 c = c.turned_down.ensures ∙ put_unheld c.args.d c.args.b.now (sym c.held_bytes.ensures ∙ c.if-held_bytes-eq0.true)

pub returns-in-Err : goal.returns-in-Err
returns-in-Err c =
    c.turned_down-in-Err.ensures ∙ put_refused c.args.d (λ z. c.if-held_bytes-eq0.false (c.held_bytes.ensures ∙ z)) c.args.b.now c.in-Err.r c.in-Err.ensures

pub copy-requires : goal.copy-requires
copy-requires c = put_fits c.args.d (λ z. c.if-held_bytes-eq0.false (c.held_bytes.ensures ∙ z)) c.args.b.now (sym c.in_default.ensures)

pub returns : goal.returns
returns c =
    put_done c.args.d (λ z. c.if-held_bytes-eq0.false (c.held_bytes.ensures ∙ z)) c.args.b.now (sym c.in_default.ensures) _ (padded_copy 512 c.args.b.now _ c.copy.ensures) _ c.empty.ensures
