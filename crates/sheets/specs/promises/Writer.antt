-- A sheet in the making: its blocks are begun, its choices are stored one by one, and its blocks are sealed.
use Rattle.std.specs.Prelude.{ℕ, zero, suc, ◌+◌, ◌*◌, ◌-◌, ◌/◌, ◌%◌, ◌≤◌, min, ◌≡◌, length, take, drop, set, get_or, replicate, Ok}
use mathlib.Core.List.{List, [], ◌∷◌, ◌++◌, flat_map}
use Rattle.logic.specs.Lists.{count_from}
use Rattle.logic.specs.Checked.{Checked}
use Rattle.blocks.specs.Bytes.{Bytes, little_endian}
use Rattle.blocks.specs.Block.{with_word_sum}
use Rattle.sheets.specs.Layout.{blocks_for}
use Rattle.sheets.specs.promises.Ends.{end_of}

-- ---- the blocks

-- Block k when its first bytes are written and all others are zero.
unfoldable pub started : (n start k : ℕ) → Bytes
started n start k = 4 ∷ k ∷ n ∷ start ∷ replicate 508 0

-- Block k with the number of its choices and some of them, and its last word zero.
unfoldable pub unsealed : (n start weight k count : ℕ) → List ℕ → Bytes
unsealed n start w k count cs =
    4 ∷ k ∷ n ∷ start ∷ 0 ∷ 0 ∷ 0 ∷ 0 ∷ (little_endian 8 w ++ (little_endian 2 count ++ (cs ++ replicate (494 - length cs) 0)))

-- How many of a sheet's choices stand in block k.
abbrev pub chunk_size : (count k : ℕ) → ℕ
chunk_size count k = min 490 (count - 490 * k)

-- The blocks of a sheet with so many choices, and none of the choices.
unfoldable pub begun : (n start weight count : ℕ) → Bytes
begun n start w count = flat_map (λ k. unsealed n start w k (chunk_size count k) []) (count_from 0 (blocks_for count))

-- The first blocks with their last words.
unfoldable pub sealed : ℕ → Bytes → Bytes
sealed blocks b = flat_map (λ k. with_word_sum (take 510 (drop (512 * k) b))) (count_from 0 blocks) ++ drop (512 * blocks) b

-- ---- the choices

-- Where choice p of a sheet stands.
unfoldable pub place : ℕ → ℕ
place p = 512 * (p / 490) + (18 + p % 490)

-- The choices from p on, so many of them, are stored.
unfoldable pub stored : List ℕ → (p count : ℕ) → Bytes → Bytes
stored cs p zero b = b
stored cs p (suc j) b = set (stored cs p j b) (place (p + j)) (get_or cs (p + j) 0)

-- What is read from choice p on is no refusal, and the blocks of all choices are in the buffer.
pub record Ahead {A : Type 0} (read : Checked (A × List ℕ)) (cs : List ℕ) (p : ℕ) (buf : Bytes) : Type 0 where
  pub end : ℕ
  pub ends : Ok end ≡ end_of (length cs) read
  pub inside : p ≤ length cs
  pub few : length cs ≤ 1365
  pub room : 512 * blocks_for (length cs) ≤ length buf

-- What is read from choice p on ends at r, and is stored.
pub record Stored {A : Type 0} (read : Checked (A × List ℕ)) (cs : List ℕ) (p r : ℕ) (buf buf' : Bytes) : Type 0 where
  pub ends : Ok r ≡ end_of (length cs) read
  pub onward : p ≤ r
  pub bytes : buf' ≡ stored cs p (r - p) buf
