-- Blocks of 512 bytes: how many, and their word sums, which are checksums.
use Rattle.std.specs.Prelude.{ℕ, zero, suc, ◌+◌, ◌*◌, ◌-◌, ◌/◌, ◌%◌, Bool, ◌&&◌, ◌++◌, eqb, length}
use Rattle.logic.specs.Lists.{every}
use Rattle.blocks.specs.Bytes.{Bytes, byte, u16, little_endian, within}

-- f 0 + f 1 + .. + f (n - 1).
unfoldable pub sum_below : ℕ → (ℕ → ℕ) → ℕ
sum_below zero f = 0
sum_below (suc n) f = sum_below n f + f n

unfoldable pub block_count : Bytes → ℕ
block_count b = length b / 512

-- Ground 1: from `least` to `most` whole blocks.
unfoldable pub whole_blocks : ℕ → ℕ → Bytes → Bool
whole_blocks least most b = eqb (length b % 512) 0 && within least most (block_count b)

-- The sum of the 256 words of block k.
unfoldable pub word_sum : Bytes → ℕ → ℕ
word_sum b k = sum_below 256 (λ j. u16 b (512 * k + 2 * j))

-- Ground 2: the words of every block sum to 0 modulo 65,536.
unfoldable pub sums_right : Bytes → Bool
sums_right b = every (block_count b) (λ k. eqb (word_sum b k % 65536) 0)

-- Ground 3 of one block: its kind and its number.
unfoldable pub headed : Bytes → ℕ → ℕ → ℕ → Bool
headed b k kind number = eqb (byte b (512 * k)) kind && eqb (byte b (512 * k + 1)) number

-- 510 bytes with the word that makes the 256 words sum to 0 modulo 65,536.
unfoldable pub with_word_sum : Bytes → Bytes
with_word_sum l = l ++ little_endian 2 ((65536 - sum_below 255 (λ j. u16 l (2 * j)) % 65536) % 65536)
