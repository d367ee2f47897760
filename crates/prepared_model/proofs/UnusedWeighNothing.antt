-- Outcomes that are not used weigh nothing: a sum over the four places of a cell is one over those that are used.
use Prim.Native.Nat.{ℕ, ◌+◌, ◌*◌, ◌-◌, ◌/◌, ◌≤◌, ◌<◌}
use native.Mathlib.Omega.{arith}
use mathlib.Core.Path.{◌≡◌, ap, ◌∙◌}
use mathlib.Core.Bool.{◌&&◌}
use lib.Dec.{eqb}
use lib.ListN.{length}
use borrow.Author.Tests.{eqb-true}
use Rattle.logic.specs.promises.Refusal.{refusal}
use Rattle.logic.specs.Lists.{every}
use Rattle.logic.proofs.Tests.{and_right, every_at}
use Rattle.blocks.specs.Bytes.{Bytes, byte, zeros}
use Rattle.blocks.specs.Block.{sum_below, block_count}
use Rattle.models.specs.Grounds.{head_spare, rows_spare, cell_spare, cells_spare, read_model}
use Rattle.models.specs.Layout.{state_count, cell_at, outcome_of, entries}
use Rattle.models.proofs.EveryCell.{entries_small}
use Rattle.models.proofs.GroundsPassed.{Passed, passed_all, passed_sized}
use Rattle.prepared_model.proofs.BitSums.{sum_short, sum_four}

module _ (m : Bytes) (e : refusal (read_model m) ≡ 0) where
  passed : Passed m
  passed = passed_all m e

  spare_weight : (s a o : ℕ) → s < state_count m → a < 8 → entries m s a ≤ o → o < 4 → (outcome_of m s a o).weight ≡ 0
  unfolding cells_spare cell_spare zeros outcome_of block_count
  spare_weight s a o h g l k =
      let n = (passed_sized m passed).bytes in
      let i = 4 * (o - entries m s a) + 1 in
      let c = every_at (λ s. every 8 (cell_spare m s)) (3 * (length m / 512 - 1))
      (and_right (head_spare m && rows_spare m) (cells_spare m) passed.spare) {i = s} (omega arith) in
      let z = every_at (λ i. eqb (byte m (cell_at s a + 4 * entries m s a + i)) 0) (16 - 4 * entries m s a)
      (every_at (cell_spare m s) 8 c g) {i = i} (omega arith) in
      let w : cell_at s a + 4 * o + 1 ≡ cell_at s a + 4 * entries m s a + i = omega arith in
      ap (byte m) w ∙ eqb-true _ 0 z

  abbrev weighed : (s a : ℕ) (value : ℕ → ℕ) → ℕ → ℕ
  weighed s a value o = (outcome_of m s a o).weight * value o

  pub used_only : (s a : ℕ) (value : ℕ → ℕ) → s < state_count m → a < 8
      → weighed s a value 0 + weighed s a value 1 + weighed s a value 2 + weighed s a value 3 ≡ sum_below (entries m s a) (weighed s a value)
  used_only s a value h g =
      sum_four (weighed s a value)
      ∙ sum_short (weighed s a value) (entries m s a) 4 (entries_small m (passed_sized m passed) s a)
      (λ o l k. rw (spare_weight s a o h g l k) (omega arith))
