use mathlib.Core.Path.{sym, ap, ◌∙◌}
use Rattle.refusals.specs.Number.{refusal_number}
use Rattle.refusals.proofs.Named.{err_some, ok_none}
use Rattle.logic.specs.promises.Refusal.{refusal}
use Rattle.models.specs.Grounds.{read_model}
use Rattle.plan_judge.proofs.LoadPutReturn.{said_cut, held_refused, held_whole}
use Rattle.plan_judge.proofs.held_bytes.Goals as goal

pub returns-then-is_err : goal.returns-then-is_err
returns-then-is_err c = let l = c.args.model.now in
    let n = c.args.blocks in
    held_refused l n (refusal_number c.accept_model.result)
    (c.accept_model.ensures ∙ ap (λ z. refusal (read_model z)) (said_cut l n c.blocks_end-n.result c.blocks_end-n.ensures))
    (err_some _ (sym c.is_err.ensures.value ∙ c.if-is_err.true))

pub returns : goal.returns
returns c = let l = c.args.model.now in
    let n = c.args.blocks in
    held_whole l n c.blocks_end-n.result c.blocks_end-n.ensures
    (ap (λ z. refusal (read_model z)) (sym (said_cut l n c.blocks_end-n.result c.blocks_end-n.ensures))
    ∙ sym c.accept_model.ensures ∙ ok_none _ (sym c.is_err.ensures.value ∙ c.if-is_err.false))
