-- Blocks of which one word is changed. Document 02, A.2: "a passing block with exactly one word changed is proved to fail". (Proved in
-- `OneWordChanged`, of any number of blocks.)
use Rattle.std.specs.Prelude.{ℕ, ◌*◌, ◌<◌, ◌≡◌, true, length}
use Rattle.blocks.specs.Bytes.{Bytes, AllBytes, u16}
use Rattle.blocks.specs.Block.{block_count, sums_right}

-- c is b but for one word of a block, the one of bytes 2 w and 2 w + 1, of which one or both are changed.
pub record OneWordChanged (b c : Bytes) : Type 0 where
  pub w : ℕ
  pub in_a_block : w < 256 * block_count b
  pub same_length : length c ≡ length b
  pub changed : u16 c (2 * w) ≡ u16 b (2 * w) → ⊥
  pub others_same : (v : ℕ) → (v ≡ w → ⊥) → u16 c (2 * v) ≡ u16 b (2 * v)

-- The words of every block of b sum to 0 modulo 65,536, and c is b with one word changed. Both are of bytes: among numbers of any size,
-- 65,536 in place of 0 would leave every sum as it was.
pub record Corrupted (b c : Bytes) : Type 0 where
  pub bytes_before : AllBytes b
  pub bytes_after : AllBytes c
  pub right_before : sums_right b ≡ true
  pub one_word : OneWordChanged b c
