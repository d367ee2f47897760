use Prim.Native.Nat.{◌*◌}
use mathlib.Core.List.{◌++◌}
use mathlib.Core.Path.{◌≡◌}
use lib.ListN.{take, drop}
use Rattle.blocks.specs.Block.{with_word_sum}
use Rattle.sheets.proofs.PiecesInOrder.{pieces}
use Rattle.sheets.proofs.writer.seal_blocks.Given as goal

abbrev pub invariant-loop-k : goal.invariant-loop-k
invariant-loop-k l = (l.buf ≡ pieces (λ i. with_word_sum (take 510 (drop (512 * i) l.initial.buf))) l.k ++ drop (512 * l.k) l.initial.buf)
