-- The root has no depth exactly if it is a state formula, since the nodes passed ground 5; the nodes are tested as in ground 9.
use Prim.Native.Nat.{◌-◌}
use native.Mathlib.Omega.{arith}
use mathlib.Core.Path.{◌≡◌, sym, ap, ap₂, ◌∙◌}
use mathlib.Core.Bool.{◌&&◌}
use lib.Dec.{eqb}
use lib.ListN.{get_or}
use Rattle.logic.specs.Formula.{never, depth}
use Rattle.questions.specs.Layout.{node_count, formulas_of, question_of}
use Rattle.questions.specs.Grounds.{formed}
use Rattle.questions.proofs.TableNodeByNode.{table_at}
use Rattle.questions.proofs.FormulaByOperator.{all_shallow}
use Rattle.questions.proofs.PathFormulasDeep.{state_depth}
use Rattle.questions.proofs.formed.Goals as goal

pub returns : goal.returns
unfolding formed question_of depth
returns c = let S = c in
    let b = S.args.b.now in
    let k = node_count b - 1 in
    let d : get_or S.args.depths.now (c.from-root.result - 1) 0 ≡ depth (get_or (formulas_of b) k never) = ap₂ (λ l j. get_or l j 0) S.requires.0.held (ap (λ n. n - 1) (c.from-root.ensures ∙ c.node_count.ensures)) ∙ table_at depth b (formulas_of b) k (omega arith) in
    ap₂ ◌&&◌ (ap (λ n. eqb n 0) d ∙ state_depth S.requires.1.0 S.requires.1.1 b S.requires.1.2 k) (c.nodes_shallow.ensures ∙ sym (all_shallow b))
