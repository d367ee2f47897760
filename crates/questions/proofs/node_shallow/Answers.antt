-- The child of "plan" stands in the table with its depth; ground 9 asks nothing of the other operators.
use native.Mathlib.Omega.{arith}
use mathlib.Core.Path.{◌≡◌, sym, ap, ap₂, ◌∙◌}
use lib.Dec.{leb}
use lib.ListN.{get_or}
use Rattle.logic.specs.Formula.{never, depth, shallow}
use Rattle.questions.specs.Layout.{node_of, node_count}
use Rattle.questions.specs.promises.Tables.{formulas_before, table}
use Rattle.questions.proofs.TableNodeByNode.{child_value, all_before, formula_here}
use Rattle.questions.proofs.FormulaByOperator.{row_8, other_shallow}
use Rattle.questions.proofs.node_shallow.Goals as goal

pub returns : goal.returns
unfolding depth shallow
returns c = let S = c in
    let b = S.args.b.now in
    let i = S.args.i in
    let x = node_of b i in
    let fs = formulas_before b i in
    let o : x.operator ≡ 8 = sym c.operator.ensures ∙ c.if-operator.false in
    let v : c.child_depth.result ≡ depth (get_or fs x.left never) = c.child_depth.ensures ∙ child_value depth b i (node_count b) (omega arith) (omega arith) (S.requires.2 ∙ ap (table depth) (sym (all_before b))) c.left.ensures in
    ap₂ leb v (c.from.ensures ∙ c.steps.ensures) ∙ sym (ap shallow (formula_here b i S.requires.0 ∙ row_8 fs x o))

pub returns-then-operator : goal.returns-then-operator
returns-then-operator c = let S = c in
    let b = S.args.b.now in
    let i = S.args.i in
    other_shallow (formulas_before b i) (node_of b i) c.operator.result (sym c.operator.ensures) c.if-operator.true ∙ sym (ap shallow (formula_here b i S.requires.0))
