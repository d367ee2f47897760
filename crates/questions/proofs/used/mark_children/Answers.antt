-- The left cell's child is marked if the operator has one, then the right cell's of an "and".
use mathlib.Core.Path.{◌≡◌, sym, ap, ap₂, ◌∙◌}
use mathlib.Core.Bool.{cond}
use lib.ListN.{set}
use Rattle.questions.specs.Layout.{node_of}
use Rattle.questions.specs.Children.{children_by, children}
use Rattle.questions.specs.promises.Used.{mark_each}
use Rattle.questions.proofs.ChildrenMarked.{left_marked, both_marked, one_marked}
use Rattle.questions.proofs.used.mark_children.Goals as goal
use Rattle.questions.proofs.used.mark_children.Goals.{then-has_left, else-has_left}

pub returns-then-op : goal.returns-then-op
unfolding children
returns-then-op c =
    let op_read : c.operator-op.result ≡ (node_of c.args.b.now c.args.i).operator = c.operator-op.ensures in
    let after_left : c.if-has_left.marks ≡ left_marked c.operator-op.result (node_of c.args.b.now c.args.i).left c.args.marks.now =
    let marks = c.args.marks.now in
    let x = (node_of c.args.b.now c.args.i).left in
    elim c.if-has_left.branch [
      | then-has_left w ↦ w.marks-is ∙ w.store.ensures ∙ ap₂ (λ x t. cond t (set marks x 1) marks) (w.from.ensures ∙ w.left.ensures) (sym w.if-has_left.true ∙ c.has_left.ensures)
      | else-has_left w ↦ w.marks-is ∙ ap (λ t. cond t (set marks x 1) marks) (sym w.if-has_left.false ∙ c.has_left.ensures)
    ] in
    let J = c in
    let S = c.args in
    let x = node_of S.b.now S.i in
    c.store-then-op.ensures ∙ ap₂ (λ l y. set l y 1) after_left (c.from-then-op.ensures ∙ c.right.ensures)
    ∙ both_marked J.operator-op.result x.left x.right S.marks.now c.if-op.true
    ∙ ap (λ op. mark_each (children_by x.left x.right op) S.marks.now) op_read

pub returns-else-op : goal.returns-else-op
unfolding children
returns-else-op c =
    let op_read : c.operator-op.result ≡ (node_of c.args.b.now c.args.i).operator = c.operator-op.ensures in
    let after_left : c.if-has_left.marks ≡ left_marked c.operator-op.result (node_of c.args.b.now c.args.i).left c.args.marks.now =
    let marks = c.args.marks.now in
    let x = (node_of c.args.b.now c.args.i).left in
    elim c.if-has_left.branch [
      | then-has_left w ↦ w.marks-is ∙ w.store.ensures ∙ ap₂ (λ x t. cond t (set marks x 1) marks) (w.from.ensures ∙ w.left.ensures) (sym w.if-has_left.true ∙ c.has_left.ensures)
      | else-has_left w ↦ w.marks-is ∙ ap (λ t. cond t (set marks x 1) marks) (sym w.if-has_left.false ∙ c.has_left.ensures)
    ] in
    let J = c in
    let S = c.args in
    let x = node_of S.b.now S.i in
    after_left ∙ one_marked J.operator-op.result x.left x.right S.marks.now c.if-op.false
    ∙ ap (λ op. mark_each (children_by x.left x.right op) S.marks.now) op_read
