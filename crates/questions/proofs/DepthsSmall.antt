-- Depths stay far below 2^32: by induction on the nodes, each is at most one deeper than those before it, and "gain" has a byte of steps.
use Prim.Native.Nat.{ℕ, zero, suc, ◌+◌, ◌*◌, ◌≤◌, ◌<◌, zero-le}
use native.Mathlib.Decide.{ℕ_discrete}
use native.Mathlib.Nat.{le_trans}
use native.Mathlib.Omega.{arith}
use mathlib.Core.Path.{◌≡◌}
use lib.ListN.{get_or, get_or-eq_default}
use Rattle.logic.specs.Formula.{never, depth}
use Rattle.blocks.specs.Bytes.{Bytes, byte}
use Rattle.questions.specs.Layout.{node_of}
use Rattle.questions.specs.promises.Tables.{formulas_before}
use Rattle.questions.proofs.TableNodeByNode.{before_length, before_at, before_other}
use Rattle.questions.proofs.FormulaByOperator.{depth_row}

pub depth_bound : (b : Bytes) → ((j : ℕ) → byte b j < 256) → (i j : ℕ) → depth (get_or (formulas_before b i) j never) ≤ 255 + i
unfolding depth node_of
depth_bound b h zero j = rw (get_or-eq_default (formulas_before b 0) never {n = j} (rw (before_length b 0) zero-le)) zero-le
depth_bound b h (suc i) j = go (depth_bound b h i) (ℕ_discrete j i)
  where
    go : ((j : ℕ) → depth (get_or (formulas_before b i) j never) ≤ 255 + i) → Dec (j ≡ i) → depth (get_or (formulas_before b (suc i)) j never) ≤ 255 + suc i
    go g (yes e) =
        rw (e, before_at b i (suc i) (omega arith))
        (le_trans (depth_row (formulas_before b i) (node_of b i) (255 + i) (omega arith) (omega (arith, h (8 + 12 * i + 1))) g) (omega arith))
    go g (no n) = rw (← before_other b i j n) (omega (arith, g j))
