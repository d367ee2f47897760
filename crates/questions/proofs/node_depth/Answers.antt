-- Each arm is its operator's row: the children's depths stand in the table, and one more than any of them fits.
use Prim.Native.Nat.{ℕ, ◌+◌, ◌<◌, max}
use native.Mathlib.Numerals.{add-one}
use native.Mathlib.Omega.{arith}
use mathlib.Core.Path.{◌≡◌, refl, sym, ap, ap₂, ◌∙◌}
use mathlib.Core.Logic.{⊎_elim}
use mathlib.Core.List.{List}
use lib.ListN.{get_or, take}
use Rattle.logic.specs.Formula.{Formula, never, depth}
use Rattle.blocks.specs.Bytes.{Bytes}
use Rattle.questions.specs.declared.operators.Operator.TheVariants.{False, Prop, Not, And, Do, Next, Gain, Plan, Earns}
use Rattle.questions.specs.Layout.{node_of}
use Rattle.questions.specs.promises.Tables.{formulas_before, table}
use Rattle.questions.proofs.TableNodeByNode.{child_value, formula_at}
use Rattle.questions.proofs.OperatorRead.{number_is, number_none}
use Rattle.questions.proofs.FormulaByOperator.{row_1, row_2, row_3, row_4, row_5, row_6, row_7, row_8, row_9, other_row}
use Rattle.questions.proofs.DepthsSmall.{depth_bound}
use Rattle.questions.proofs.node_depth.Goals as goal

module _ (b : Bytes) (i : ℕ) where
  -- What is read of a child is its depth, since the table holds the depths of the nodes before node i.
  child : {l : List ℕ} {r j j' : ℕ} → (i < 40) × (l ≡ table depth (formulas_before b i)) → r ≡ get_or (take i l) j 0 → j ≡ j' → r ≡ depth (get_or (formulas_before b i) j' never)
  unfolding depth
  child t e f = e ∙ child_value depth b i i (omega arith) (omega arith) t.1 f

  -- An arm gives the depth of the formula in its operator's row.
  by_row : {op k r : ℕ} {φ : Formula} → op ≡ (node_of b i).operator → op ≡ k → ((node_of b i).operator ≡ k → formula_at b i ≡ φ) → r ≡ depth φ → r ≡ depth (formula_at b i)
  by_row o e row v = v ∙ sym (ap depth (row (sym o ∙ e)))

pub overflow_add-result : goal.overflow_add-result
overflow_add-result c = let S = c in
    let b = S.args.b.now in
    let i = S.args.i in
    let v = child b i S.requires c.child_depth-in-Next.ensures c.left-in-Next.ensures in
    omega (arith, v, depth_bound b (λ k. (c.shared_slice_known-1.given k).fits) i (node_of b i).left, S.requires.0)

pub returns-in-Not : goal.returns-in-Not
unfolding depth
returns-in-Not c = let S = c in
    let b = S.args.b.now in
    let i = S.args.i in
    by_row b i c.operator.ensures (number_is Not c.try_from.ensures c.in-Ok.is c.in-Not.is) (row_3 (formulas_before b i) (node_of b i)) (child b i S.requires c.child_depth.ensures c.left.ensures)

pub returns-in-And : goal.returns-in-And
unfolding depth
returns-in-And c = let S = c in
    let b = S.args.b.now in
    let i = S.args.i in
    let v = child b i S.requires c.child_depth-in-And.ensures c.left-in-And.ensures in
    let w = child b i S.requires c.child_depth-in-And-2.ensures c.right.ensures in
    by_row b i c.operator.ensures (number_is And c.try_from.ensures c.in-Ok.is c.in-And.is) (row_4 (formulas_before b i) (node_of b i)) (c.max.ensures ∙ ap₂ max v w)

pub returns-in-Do : goal.returns-in-Do
unfolding depth
returns-in-Do c = let S = c in
    let b = S.args.b.now in
    let i = S.args.i in
    by_row b i c.operator.ensures (number_is Do c.try_from.ensures c.in-Ok.is c.in-Do.is) (row_5 (formulas_before b i) (node_of b i)) (refl)

pub returns-in-Next : goal.returns-in-Next
unfolding depth
returns-in-Next c = let S = c in
    let b = S.args.b.now in
    let i = S.args.i in
    by_row b i c.operator.ensures (number_is Next c.try_from.ensures c.in-Ok.is c.in-Next.is) (row_6 (formulas_before b i) (node_of b i)) (ap (λ k. k + 1) (child b i S.requires c.child_depth-in-Next.ensures c.left-in-Next.ensures) ∙ add-one _)

pub returns-in-Gain : goal.returns-in-Gain
unfolding depth
returns-in-Gain c = let S = c in
    let b = S.args.b.now in
    let i = S.args.i in
    by_row b i c.operator.ensures (number_is Gain c.try_from.ensures c.in-Ok.is c.in-Gain.is) (row_7 (formulas_before b i) (node_of b i)) (c.from.ensures ∙ c.steps.ensures)

pub returns-in_default : goal.returns-in_default
unfolding depth
returns-in_default c = let S = c in
    let no = number_none c.try_from.ensures c.in_default.is in
    other_row (formulas_before S.args.b.now S.args.i) (node_of S.args.b.now S.args.i) depth refl (λ k. refl) (λ n φ r p q. refl) (λ n l u r p q. refl)
    c.operator.result (sym c.operator.ensures) (no Not) (no And) (no Do) (no Next) (no Gain)

pub returns-in-False : goal.returns-in-False
unfolding depth
returns-in-False c = let S = c in
    let b = S.args.b.now in
    let i = S.args.i in
    let fs = formulas_before b i in
    let x = node_of b i in
    ⊎_elim
    (λ k. by_row b i c.operator.ensures (number_is False c.try_from.ensures c.in-Ok.is k) (row_1 fs x) refl)
    (⊎_elim
    (λ k. by_row b i c.operator.ensures (number_is Prop c.try_from.ensures c.in-Ok.is k) (row_2 fs x) refl)
    (⊎_elim (λ k. by_row b i c.operator.ensures (number_is Plan c.try_from.ensures c.in-Ok.is k) (row_8 fs x) refl) (λ k. by_row b i c.operator.ensures (number_is Earns c.try_from.ensures c.in-Ok.is k) (row_9 fs x) refl)))
    c.in-False.is
