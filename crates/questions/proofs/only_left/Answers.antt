-- The cells right, p and q stand side by side, so one test of nine bytes is a test of each.
use Prim.Native.Nat.{◌+◌}
use mathlib.Core.Path.{ap₂, sym, ◌∙◌}
use mathlib.Core.Bool.{◌&&◌, and_assoc}
use Rattle.blocks.specs.Bytes.{zeros}
use Rattle.questions.proofs.TableNodeByNode.{spare_right}
use Rattle.questions.proofs.only_left.Goals as goal

pub returns : goal.returns
returns c = let b = c.args.b.now in
    let at = c.args.at in
    ap₂ ◌&&◌ c.zeros.ensures (c.zeros-2.ensures ∙ spare_right b at) ∙ sym (and_assoc (zeros b (at + 1) 1) (zeros b (at + 3) 1) (zeros b (at + 4) 8))
