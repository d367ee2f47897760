-- An input that passes the test of its length has a last block.
use mathlib.Core.Path.{sym, ◌∙◌}
use lib.Dec.{leb}
use lib.ListN.{length}
use borrow.Author.Tests.{leb-true}
use Rattle.logic.proofs.Tests.{and_left}
use Rattle.blocks.specs.Bytes.{within}
use Rattle.verdict_line.proofs.parts.Goals as goal

pub overflow_sub-input : goal.overflow_sub-input
unfolding within
overflow_sub-input c =
    let n = length c.args.input.now in
    leb-true 512 n (and_left (leb 512 n) (leb n 6656) (sym c.within.ensures ∙ c.if-not-within.false))
