-- The table holds the nodes passed.
use native.Mathlib.Numerals.{add-one}
use native.Mathlib.Omega.{arith}
use mathlib.Core.Path.{◌≡◌, refl, ap₂, ◌∙◌}
use lib.ListN.{set}
use Rattle.logic.specs.Lists.{tabulate, count_from}
use Rattle.logic.specs.Formula.{depth, formulas}
use Rattle.questions.specs.promises.Tables.{formulas_before, table}
use Rattle.questions.proofs.TableNodeByNode.{table_more, table_held}
use Rattle.questions.proofs.depth_table.Goals as goal

pub loop-i-init : goal.loop-i-init
unfolding formulas_before formulas table tabulate count_from depth
loop-i-init c = (omega arith, refl)

pub loop-i-preserved : goal.loop-i-preserved
loop-i-preserved c = let b = c.args.b.now in
    let i = c.loop-i.i in
    (c.loop-i.invariant.0, rw (add-one, c.from.ensures) (ap₂ (λ l v. set l i v) c.loop-i.invariant.1 c.node_depth.ensures ∙ table_more depth b i (omega (arith, c.loop-i.invariant.0))))

pub returns : goal.returns
returns c = let e : c.loop-i.i ≡ c.nodes_held-i-end.result = omega arith in
    c.loop-i.invariant.1 ∙ table_held depth c.args.b.now c.loop-i.i (e ∙ c.nodes_held-i-end.ensures)
