-- Each return by what the desk holds: no model, no question put, none that is accepted, or both.
use mathlib.Core.Path.{sym, ap, ◌∙◌}
use Rattle.refusals.proofs.Named.{err_some, ok_none}
use Rattle.logic.specs.promises.Refusal.{refusal}
use Rattle.plan_judge.proofs.StateGrounds.{no_model, not_put, not_accepted, both_here, both_held}
use Rattle.plan_judge.proofs.question_held.Goals as goal

pub returns-then-held_bytes-eq0 : goal.returns-then-held_bytes-eq0
returns-then-held_bytes-eq0 c = no_model c.args.d (sym c.held_bytes.ensures ∙ c.if-held_bytes-eq0.true)

pub returns-in_default : goal.returns-in_default
returns-in_default c = not_put c.args.d (λ z. c.if-held_bytes-eq0.false (c.held_bytes.ensures ∙ z)) c.in_default.is

pub returns-then-is_err : goal.returns-then-is_err
returns-then-is_err c =
    not_accepted c.args.d (λ z. c.if-held_bytes-eq0.false (c.held_bytes.ensures ∙ z)) c.in-Some.q c.in-Some.is
    (λ z. err_some _ (sym c.is_err.ensures.value ∙ c.if-is_err.true) (c.accept_question.ensures ∙ z))

pub returns : goal.returns
returns c = let d = c.args.d in
    sym
    (ap refusal
    (both_held d
    (both_here d (λ z. c.if-held_bytes-eq0.false (c.held_bytes.ensures ∙ z)) c.in-Some.q c.in-Some.is
    (sym c.accept_question.ensures ∙ ok_none _ (sym c.is_err.ensures.value ∙ c.if-is_err.false)))))
