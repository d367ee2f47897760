-- The invariant: the children of the nodes passed are marked.
use Prim.Native.Nat.{suc}
use native.Mathlib.Numerals.{add-one}
use mathlib.Core.Path.{sym, subst}
use Rattle.questions.specs.promises.Used.{MarksOf}
use Rattle.questions.proofs.ChildrenMarked.{no_marks, more_marks}
use Rattle.questions.proofs.used.children_marked.Goals as goal

pub loop-i-init : goal.loop-i-init
loop-i-init c = no_marks c.args.b.now

pub loop-i-preserved : goal.loop-i-preserved
loop-i-preserved c = let L = c.loop-i in
    let b = c.args.b.now in
    rw add-one (subst (MarksOf b (suc L.i)) (sym c.mark_children.ensures) (more_marks b L.i L.marks L.invariant))
