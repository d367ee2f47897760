use Prim.Native.Nat.{◌*◌}
use mathlib.Core.List.{[], ◌++◌}
use mathlib.Core.Path.{◌≡◌}
use lib.ListN.{drop}
use Rattle.sheets.specs.promises.Writer.{unsealed, chunk_size}
use Rattle.sheets.proofs.PiecesInOrder.{pieces}
use Rattle.sheets.proofs.writer.begin_blocks.Given as goal

abbrev pub invariant-loop-k : goal.invariant-loop-k
invariant-loop-k l = (l.buf ≡ pieces (λ i. unsealed l.n l.start l.weight i (chunk_size l.count i) []) l.k ++ drop (512 * l.k) l.initial.buf)
