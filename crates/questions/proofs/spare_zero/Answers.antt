-- The three parts are the definition, at the end that the node count gives.
use Prim.Native.Nat.{◌-◌}
use mathlib.Core.Path.{◌≡◌, ap, ap₂, ◌∙◌}
use mathlib.Core.Bool.{◌&&◌}
use Rattle.blocks.specs.Bytes.{zeros}
use Rattle.questions.specs.Layout.{node_at, node_count}
use Rattle.questions.specs.Grounds.{spare_zero}
use Rattle.questions.proofs.spare_zero.Goals as goal

pub returns : goal.returns
unfolding spare_zero
returns c = let b = c.args.b.now in
    let a : c.node_at-end.result ≡ node_at (node_count b) = c.node_at-end.ensures.value ∙ ap (λ k. node_at k) c.node_count.ensures in
    ap₂ ◌&&◌ (ap₂ ◌&&◌ c.zeros.ensures c.nodes_spare.ensures) (c.zeros-2.ensures ∙ ap (λ k. zeros b k (510 - k)) a)
