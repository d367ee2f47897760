-- The cone's root is the condition, and the search goes as deep as it looks.
use Prim.Native.Nat.{ℕ}
use native.Mathlib.Omega.{arith}
use mathlib.Core.Path.{sym, ap, ◌∙◌}
use lib.Seq.{length-take-le}
use Rattle.logic.specs.Formula.{depth}
use Rattle.prepared_question.specs.promises.Nodes.{formula}
use Rattle.judging.proofs.BestTotals.{looks, ready, finds}
use Rattle.judging.proofs.conditions.searched.Goals as goal

pub slice_bounds-find-end : goal.slice_bounds-find-end
slice_bounds-find-end c = sym (length-take-le _ _ (omega (arith, c.cone-k.ensures.0, c.cone-k.auto.out)))

pub find-requires : goal.find-requires
find-requires c = let S = c in
    let P = S.requires.given in
    let d = looks P.0 P.1 c.depth-d.ensures in record { ready = ready P.0 P.1 c.cone-k.ensures.1 c.cone-k.ensures.2; d_value = (d ∙ ap (λ (i : ℕ). depth (formula S.args.q.now i)) (sym c.cone-k.ensures.2), omega (arith, S.requires.c_bound.0), S.requires.c_bound.1, c.cone-k.ensures.3) }

pub returns : goal.returns
returns c = let P = c.requires.given in
    finds P.0 P.1 (looks P.0 P.1 c.depth-d.ensures) c.cone-k.ensures.2 c.find.ensures
