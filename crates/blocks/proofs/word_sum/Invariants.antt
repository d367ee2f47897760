use Prim.Native.Nat.{◌+◌, ◌*◌, ◌≤◌}
use mathlib.Core.Path.{◌≡◌}
use Rattle.blocks.specs.Bytes.{u16}
use Rattle.blocks.specs.Block.{sum_below}
use Rattle.blocks.proofs.word_sum.Given as goal

abbrev pub invariant-loop-j : goal.invariant-loop-j
invariant-loop-j l = (l.sum ≤ 65535 * l.j) × (l.sum ≡ sum_below l.j (λ i. u16 l.b (512 * l.k + 2 * i)))
