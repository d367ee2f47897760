-- The truth at the place of a child in s.
use Prim.Native.Nat.{ℕ, ◌+◌, ◌*◌}
use native.Mathlib.Omega.{arith}
use mathlib.Core.Path.{◌≡◌, sym, ap, ap₂, ◌∙◌}
use lib.Bits.{bit_and}
use lib.Dec.{eqb}
use lib.ListN.{get_or}
use Rattle.logic.specs.Model.{prop_in}
use Rattle.logic.specs.Bound.{one_if}
use Rattle.questions.specs.declared.operators.Operator.TheVariants.{Prop, Not, And}
use Rattle.questions.proofs.OperatorRead.{number_is, number_not, number_none}
use Rattle.prepared_model.specs.promises.Rows.{model_in}
use Rattle.judging.proofs.TruthByOperator.{truth_prop, truth_not, truth_and, truth_none}
use Rattle.judging.proofs.truth.plain_truth.Goals as goal

pub holds-requires : goal.holds-requires
holds-requires c = let S = c in
    let P = S.requires.given in
    let o = sym c.operator.ensures ∙ number_is Prop c.try_from.ensures c.in-Ok.is c.in-Prop.is in
    (P.0.prepared, P.2, omega (arith, c.left.ensures, P.0.prepared.props, (P.0.nodes.formed.in_range S.args.j P.1).of_prop o))

pub found-requires : goal.found-requires
found-requires c = let S = c in
    let P = S.requires.given in
    let o = sym c.operator.ensures ∙ number_is Not c.try_from.ensures c.in-Ok.is c.in-Not.is in
    (omega (arith, c.left-in-Not.ensures, P.0.nodes.formed.few_nodes, P.1, (P.0.nodes.formed.in_range S.args.j P.1).of_neg o), omega (arith, P.2, P.0.prepared.states))

pub found-requires-in-And : goal.found-requires-in-And
found-requires-in-And c = let S = c in
    let P = S.requires.given in
    let o = sym c.operator.ensures ∙ number_is And c.try_from.ensures c.in-Ok.is c.in-And.is in
    (omega (arith, c.left-in-And.ensures, P.0.nodes.formed.few_nodes, P.1, ((P.0.nodes.formed.in_range S.args.j P.1).of_both o).0), omega (arith, P.2, P.0.prepared.states))

pub found-requires-in-And-2 : goal.found-requires-in-And-2
found-requires-in-And-2 c = let S = c in
    let P = S.requires.given in
    let o = sym c.operator.ensures ∙ number_is And c.try_from.ensures c.in-Ok.is c.in-And.is in
    (omega (arith, c.right.ensures, P.0.nodes.formed.few_nodes, P.1, ((P.0.nodes.formed.in_range S.args.j P.1).of_both o).1), omega (arith, P.2, P.0.prepared.states))

pub returns-in-Prop : goal.returns-in-Prop
returns-in-Prop c = let S = c in
    let P = S.requires.given in
    λ d. c.bit.ensures ∙ ap one_if (c.holds.ensures ∙ ap (prop_in (model_in S.args.m.now) S.args.s) c.left.ensures)
    ∙ truth_prop P.0 S.args.j S.args.s P.1 (sym c.operator.ensures ∙ number_is Prop c.try_from.ensures c.in-Ok.is c.in-Prop.is)

pub returns-in-Not : goal.returns-in-Not
returns-in-Not c =
    let child_at : ℕ → ℕ = λ l. get_or c.args.truth.now (32 * l + c.args.s) 0 in
    let at_child : (x l l' : ℕ) → x ≡ child_at l → l ≡ l' → x ≡ child_at l' = λ x l l' e f. e ∙ ap child_at f in
    let S = c in
    let P = S.requires.given in
    let o = sym c.operator.ensures ∙ number_is Not c.try_from.ensures c.in-Ok.is c.in-Not.is in
    λ d. c.bit-in-Not.ensures ∙ ap (λ (x : ℕ). one_if (eqb x 0)) (at_child _ _ _ c.found.ensures c.left-in-Not.ensures)
    ∙ truth_not P.0 S.args.j S.args.s P.1 S.args.truth.now d o (S.requires.supplied.0.under_not o)

pub returns-in-And : goal.returns-in-And
returns-in-And c =
    let child_at : ℕ → ℕ = λ l. get_or c.args.truth.now (32 * l + c.args.s) 0 in
    let at_child : (x l l' : ℕ) → x ≡ child_at l → l ≡ l' → x ≡ child_at l' = λ x l l' e f. e ∙ ap child_at f in
    let S = c in
    let P = S.requires.given in
    let o = sym c.operator.ensures ∙ number_is And c.try_from.ensures c.in-Ok.is c.in-And.is in
    λ d. ap₂ bit_and (at_child _ _ _ c.found-in-And.ensures c.left-in-And.ensures) (at_child _ _ _ c.found-in-And-2.ensures c.right.ensures)
    ∙ truth_and P.0 S.args.j S.args.s P.1 S.args.truth.now d o (S.requires.supplied.0.and_left o) (S.requires.supplied.0.and_right o)

pub returns-in_default : goal.returns-in_default
returns-in_default c = let S = c in
    let P = S.requires.given in
    let no = number_none c.try_from.ensures c.in_default.is in
    let e = c.operator.ensures in
    λ d. truth_none P.0 S.args.j S.args.s P.1 d (λ o. no Prop (e ∙ o)) (λ o. no Not (e ∙ o)) (λ o. no And (e ∙ o)) S.requires.supplied.1

pub returns-in_default-operator : goal.returns-in_default-operator
returns-in_default-operator c = let S = c in
    let P = S.requires.given in
    let n = c.in_default-operator in
    let r = c.try_from.ensures in
    let is = c.in-Ok.is in
    let e = c.operator.ensures in
    λ d. truth_none P.0 S.args.j S.args.s P.1 d (λ o. number_not Prop r is n.not-Prop (e ∙ o)) (λ o. number_not Not r is n.not-Not (e ∙ o)) (λ o. number_not And r is n.not-And (e ∙ o)) S.requires.supplied.1
