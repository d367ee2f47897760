-- By cases on whether a block follows.
use Prim.Native.Nat.{◌+◌, ◌/◌}
use mathlib.Core.Path.{ap}
use mathlib.Core.Bool.{◌&&◌}
use lib.Dec.{eqb, leb}
use lib.ListN.{length}
use borrow.Author.Tests.{lt-ltb, le-ltb}
use Rattle.blocks.specs.Bytes.{within}
use Rattle.blocks.specs.Block.{block_count}
use Rattle.sheets.specs.Grounds.{count_right}
use Rattle.sheets.proofs.count_right.Goals as goal

pub returns-then-k-b : goal.returns-then-k-b
unfolding count_right block_count
returns-then-k-b c = let b = c.args.b.now in
    let k = c.args.k in
    rw (lt-ltb (k + 1) (length b / 512) c.if-k-b.true) (ap (λ x. eqb x 490) c.count_at-c.ensures.value)

pub returns : goal.returns
unfolding count_right block_count within
returns c = let b = c.args.b.now in
    let k = c.args.k in
    rw (le-ltb (k + 1) (length b / 512) c.if-k-b.false) (ap (λ x. leb 1 x && leb x 490) c.count_at-c.ensures.value)
