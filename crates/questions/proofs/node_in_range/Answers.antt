-- Each arm answers its operator's row of the table; a byte that is no operator's has no row.
use mathlib.Core.Path.{◌≡◌, refl, sym, ap, ap₂, ◌∙◌}
use mathlib.Core.Logic.{⊎_elim}
use mathlib.Core.Bool.{◌&&◌}
use lib.Dec.{ltb}
use mir.Syntax.{w32}
use mir.Val.{to_z, of_z}
use Rattle.questions.specs.declared.operators.Operator.TheVariants.{False, Prop, Not, And, Do, Next, Gain, Plan, Earns}
use Rattle.questions.specs.Layout.{node_of}
use Rattle.questions.specs.Grounds.{compares, gain_bound, plan_in_range, earns_in_range, node_in_range}
use Rattle.questions.proofs.OperatorRead.{number_is, number_none}
use Rattle.questions.proofs.TableNodeByNode.{other_in_range}
use borrow.Author.Rules.{rules}
use Rattle.questions.proofs.node_in_range.Goals as goal

pub returns-in_default : goal.returns-in_default
returns-in_default c = let S = c.args in
    let no = number_none c.try_from.ensures c.in_default.is in
    other_in_range S.actions S.props S.i c.operator.result (node_of S.b.now S.i) (sym c.operator.ensures)
    (no False) (no Prop) (⊎_elim (no Not) (no Next)) (no And) (no Do) (no Gain) (no Plan) (no Earns)

pub returns-in-False : goal.returns-in-False
unfolding node_in_range
returns-in-False c = rw (sym c.operator.ensures ∙ number_is False c.try_from.ensures c.in-Ok.is c.in-False.is) refl

pub returns-in-Prop : goal.returns-in-Prop
unfolding node_in_range
returns-in-Prop c = rw (sym c.operator.ensures ∙ number_is Prop c.try_from.ensures c.in-Ok.is c.in-Prop.is) (ap (λ k. ltb k c.args.props) (c.from.ensures ∙ c.left.ensures))

pub returns-in-Not : goal.returns-in-Not
unfolding node_in_range
returns-in-Not c = let e = ap (λ k. ltb k c.args.i) c.left-in-Not.ensures in
    ⊎_elim
    (λ k. rw (sym c.operator.ensures ∙ number_is Not c.try_from.ensures c.in-Ok.is k) e)
    (λ k. rw (sym c.operator.ensures ∙ number_is Next c.try_from.ensures c.in-Ok.is k) e)
    c.in-Not.is

pub returns-in-And : goal.returns-in-And
unfolding node_in_range
returns-in-And c = let i = c.args.i in
    rw (sym c.operator.ensures ∙ number_is And c.try_from.ensures c.in-Ok.is c.in-And.is) (ap₂ (λ l r. ltb l i && ltb r i) c.left-in-And.ensures c.right.ensures)

pub returns-in-Do : goal.returns-in-Do
unfolding node_in_range
returns-in-Do c = rw (sym c.operator.ensures ∙ number_is Do c.try_from.ensures c.in-Ok.is c.in-Do.is) (ap (λ k. ltb k c.args.actions) (c.from-in-Do.ensures ∙ c.left-in-Do.ensures))

pub returns-in-Gain : goal.returns-in-Gain
unfolding node_in_range node_of compares
returns-in-Gain c = let z : to_z w32 (of_z w32 c.p.result) ≡ c.p.result = search rules in
    rw (sym c.operator.ensures ∙ number_is Gain c.try_from.ensures c.in-Ok.is c.in-Gain.is) (ap₂ ◌&&◌ c.compares.ensures (c.gain_bound.ensures ∙ ap₂ gain_bound (z ∙ c.p.ensures) c.q.ensures))

pub returns-in-Plan : goal.returns-in-Plan
unfolding node_in_range node_of plan_in_range compares
returns-in-Plan c = rw (sym c.operator.ensures ∙ number_is Plan c.try_from.ensures c.in-Ok.is c.in-Plan.is) c.plan_in_range.ensures

pub returns-in-Earns : goal.returns-in-Earns
unfolding node_in_range node_of earns_in_range compares
returns-in-Earns c = rw (sym c.operator.ensures ∙ number_is Earns c.try_from.ensures c.in-Ok.is c.in-Earns.is) c.earns_in_range.ensures
