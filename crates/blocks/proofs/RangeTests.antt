-- What the tests of a range and of whole blocks say.
use Prim.Native.Nat.{ℕ, ◌*◌, ◌/◌, ◌%◌, ◌≤◌}
use native.Mathlib.Omega.{arith}
use mathlib.Core.Path.{◌≡◌}
use mathlib.Core.Bool.{true}
use lib.ListN.{length}
use lib.Dec.{eqb, leb}
use borrow.Author.Tests.{eqb-true, leb-true}
use Rattle.logic.proofs.Tests.{and_left, and_right}
use Rattle.blocks.specs.Bytes.{Bytes, within}
use Rattle.blocks.specs.Block.{block_count, whole_blocks}

module _ (least most x : ℕ) (e : within least most x ≡ true) where
  pub at_least : least ≤ x
  unfolding within
  at_least = leb-true _ _ (and_left _ _ e)

  pub at_most : x ≤ most
  unfolding within
  at_most = leb-true _ _ (and_right (leb least x) _ e)

pub blocks_within : (b : Bytes) (least most : ℕ) → whole_blocks least most b ≡ true → (length b ≡ 512 * (length b / 512)) × (least ≤ length b / 512) × (length b / 512 ≤ most)
unfolding whole_blocks within block_count
blocks_within b least most e =
    let l : eqb (length b % 512) 0 ≡ true = and_left _ _ e in
    let w = and_right (eqb (length b % 512) 0) _ e in
    let z : length b % 512 ≡ 0 = eqb-true _ _ l in
    (omega arith, leb-true _ _ (and_left _ _ w), leb-true _ _ (and_right (leb least (length b / 512)) _ w))
