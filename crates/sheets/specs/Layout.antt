-- Where a sheet's fields stand in its blocks, what they hold, and the blocks that are written of a plan. A sheet is document 01's word for
-- a certificate: a plan's choices with the total claimed for them. Document 01, "Blocks of 512 bytes", Sheet.
use Rattle.std.specs.Prelude.{ℕ, ◌+◌, ◌*◌, ◌-◌, ◌/◌, ℤ, length, take, drop, replicate}
use mathlib.Core.List.{List, ◌∷◌, ◌++◌, flat_map}
use Rattle.logic.specs.Lists.{count_from}
use Rattle.blocks.specs.Bytes.{Bytes, u16, u64, signed, twos_complement, little_endian}
use Rattle.blocks.specs.Block.{block_count, with_word_sum}

-- What a sheet says: the total that is claimed, by document 01's word the weight, and the choices.
pub record Sheet : Type 0 where
  pub weight : ℤ
  pub choices : List ℕ

-- In block k: at 8 the weight, as the number of its eight bytes, at 16 the count of choices here, from 18 the choices, one byte each.
unfoldable pub weight_of : Bytes → ℕ → ℕ
weight_of b k = u64 b (512 * k + 8)

unfoldable pub count_of : Bytes → ℕ → ℕ
count_of b k = u16 b (512 * k + 16)

unfoldable pub choices_of : Bytes → ℕ → List ℕ
choices_of b k = take (count_of b k) (drop (512 * k + 18) b)

-- The total that these eight bytes hold, in two's complement: document 02, A.3, "The sheet's eight bytes hold the signed total". Of an
-- operator 8 root document 01 has an unsigned number there. Both read alike: such a root's total, W, is never below 0 and is below 2 to the
-- 63, where the two are one number; eight bytes from 2 to the 63 up are no plan's W in either, so they are refused with 11 (proved:
-- `signed_natural`, and `check_unsigned` of demand 3).
unfoldable pub claimed_total : Bytes → ℤ
claimed_total b = signed 63 (weight_of b 0)

unfoldable pub sheet_of : Bytes → Sheet
sheet_of b = record { weight = claimed_total b; choices = flat_map (choices_of b) (count_from 0 (block_count b)) }

-- ---- what is written

-- Block k of a sheet: kind 4, its number, n, the start state, the weight as the number of its eight bytes, and these choices of it.
unfoldable pub sheet_block : (n start weight : ℕ) → ℕ → List ℕ → Bytes
sheet_block n start w k cs =
    with_word_sum
    (4 ∷ k ∷ n ∷ start ∷ 0 ∷ 0 ∷ 0 ∷ 0 ∷ (little_endian 8 w ++ (little_endian 2 (length cs) ++ (cs ++ replicate (492 - length cs) 0))))

-- Every block but the last holds exactly 490 choices.
unfoldable pub blocks_for : ℕ → ℕ
blocks_for count = (count + 489) / 490

-- The sheet of these choices, with this total.
unfoldable pub sheet_bytes : (n start : ℕ) (total : ℤ) → List ℕ → Bytes
sheet_bytes n start z cs = flat_map (λ k. sheet_block n start (twos_complement 63 z) k (take 490 (drop (490 * k) cs))) (count_from 0 (blocks_for (length cs)))
