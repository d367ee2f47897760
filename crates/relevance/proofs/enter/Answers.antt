-- Each operator that reads its children on the path marks them.
use mathlib.Core.Path.{◌≡◌, ◌∙◌}
use mathlib.Core.Logic.{◌⊎◌, inl, inr, ⊎_elim}
use Rattle.questions.specs.declared.operators.Operator.TheVariants.{Not, And, Next}
use Rattle.questions.proofs.OperatorRead.{number_is, number_not, number_none}
use Rattle.prepared_question.proofs.Marks.{grown_none}
use Rattle.relevance.proofs.ConeListed.{entered_none}
use borrow.Author.Rules.{rules}
use Rattle.relevance.proofs.enter.Goals as goal

pub returns-in_default : goal.returns-in_default
returns-in_default c = let no = number_none c.try_from.ensures c.in_default.is in
    let e = c.operator.ensures in
    (grown_none _ c.args.marks.now, λ _. entered_none (⊎_elim (λ x. no Not (e ∙ x)) (λ x. no Next (e ∙ x))) (λ o. no And (e ∙ o)))

pub returns-in_default-operator : goal.returns-in_default-operator
returns-in_default-operator c = let n = c.in_default-operator in
    let r = c.try_from.ensures in
    let is = c.in-Ok.is in
    let e = c.operator.ensures in (
      grown_none _ c.args.marks.now,
      λ _. entered_none (⊎_elim (λ x. number_not Not r is n.not-Not (e ∙ x)) (λ x. number_not Next r is n.not-Next (e ∙ x))) (λ o. number_not And r is n.not-And (e ∙ o)),
    )

pub returns-in-Not : goal.returns-in-Not
returns-in-Not c =
    let o : (c.operator.result ≡ 3) ⊎ (c.operator.result ≡ 6) =
    ⊎_elim (λ k. inl (number_is Not c.try_from.ensures c.in-Ok.is k)) (λ k. inr (number_is Next c.try_from.ensures c.in-Ok.is k)) c.in-Not.is in search rules

pub returns-in-And : goal.returns-in-And
returns-in-And c = let o : c.operator.result ≡ 4 = number_is And c.try_from.ensures c.in-Ok.is c.in-And.is in search rules
