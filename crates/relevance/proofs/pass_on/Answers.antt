-- Which operator the node's byte was read as says what it passes on.
use mathlib.Core.Path.{◌≡◌}
use mathlib.Core.Logic.{◌⊎◌, inl, inr, ⊎_elim}
use Rattle.questions.specs.declared.operators.Operator.TheVariants.{Not, And, Next, Plan}
use Rattle.questions.proofs.OperatorRead.{number_is, number_not, number_none}
use borrow.Author.Rules.{rules}
use Rattle.relevance.proofs.pass_on.Goals as goal

pub returns-in_default : goal.returns-in_default
returns-in_default c =
    let no = number_none c.try_from.ensures c.in_default.is in
    let n3 : c.operator.result ≡ 3 → ⊥ = no Not in
    let n4 : c.operator.result ≡ 4 → ⊥ = no And in
    let n6 : c.operator.result ≡ 6 → ⊥ = no Next in
    let n8 : c.operator.result ≡ 8 → ⊥ = no Plan in search rules

pub mark_next-requires : goal.mark_next-requires
mark_next-requires c = let o : c.operator.result ≡ 6 = number_is Next c.try_from.ensures c.in-Ok.is c.in-Next.is in search rules

pub returns-in-Not : goal.returns-in-Not
returns-in-Not c =
    let o : (c.operator.result ≡ 3) ⊎ (c.operator.result ≡ 8) =
    ⊎_elim (λ k. inl (number_is Not c.try_from.ensures c.in-Ok.is k)) (λ k. inr (number_is Plan c.try_from.ensures c.in-Ok.is k)) c.in-Not.is in search rules

pub returns-in-And : goal.returns-in-And
returns-in-And c = let o : c.operator.result ≡ 4 = number_is And c.try_from.ensures c.in-Ok.is c.in-And.is in search rules

pub returns-in-Next : goal.returns-in-Next
returns-in-Next c = let o : c.operator.result ≡ 6 = number_is Next c.try_from.ensures c.in-Ok.is c.in-Next.is in search rules

pub returns-in_default-operator : goal.returns-in_default-operator
returns-in_default-operator c =
    let n = c.in_default-operator in
    let r = c.try_from.ensures in
    let is = c.in-Ok.is in
    let n3 : c.operator.result ≡ 3 → ⊥ = number_not Not r is n.not-Not in
    let n4 : c.operator.result ≡ 4 → ⊥ = number_not And r is n.not-And in
    let n6 : c.operator.result ≡ 6 → ⊥ = number_not Next r is n.not-Next in
    let n8 : c.operator.result ≡ 8 → ⊥ = number_not Plan r is n.not-Plan in search rules
