-- The grounds on which a sheet is refused before its choices are looked at, 1 to 6, each a test on the whole input, for a question with n
-- steps and this start state. Document 01, "Refused because of the input".
use Rattle.std.specs.Prelude.{ℕ, ◌+◌, ◌*◌, ◌-◌, Bool, cond, ◌&&◌, eqb, ltb, List, [], ◌∷◌}
use Rattle.logic.specs.Lists.{every}
use Rattle.logic.specs.Checked.{Checked}
use Rattle.logic.specs.Grounds.{Ground, ◌unless◌, decided}
use Rattle.blocks.specs.Bytes.{Bytes, byte, zeros, within}
use Rattle.blocks.specs.Block.{block_count, whole_blocks, sums_right, headed}
use Rattle.sheets.specs.Layout.{Sheet, weight_of, count_of, sheet_of}

-- 4 of block k: n and the start state are the question's.
unfoldable pub head_right : (n start : ℕ) → Bytes → ℕ → Bool
head_right n start b k = eqb (byte b (512 * k + 2)) n && eqb (byte b (512 * k + 3)) start

-- 5 of block k: every block but the last holds exactly 490 choices, the last 1 to 490; the weight repeats in each block.
unfoldable pub count_right : Bytes → ℕ → Bool
count_right b k = cond (ltb (k + 1) (block_count b)) (eqb (count_of b k) 490) (within 1 490 (count_of b k))

unfoldable pub weight_right : Bytes → ℕ → Bool
weight_right b k = eqb (weight_of b k) (weight_of b 0)

-- 6 of block k: bytes 4 to 7, and what follows the choices.
unfoldable pub spare_right : Bytes → ℕ → Bool
spare_right b k = zeros b (512 * k + 4) 4 && zeros b (512 * k + 18 + count_of b k) (492 - count_of b k)

-- The grounds of a sheet's bytes, in document 01's order.
abbrev pub sheet_grounds : (n start : ℕ) → Bytes → List Ground
sheet_grounds n start b =
    1 unless whole_blocks 1 3 b
    ∷ 2 unless sums_right b
    ∷ 3 unless every (block_count b) (λ k. headed b k 4 k)
    ∷ 4 unless every (block_count b) (head_right n start b)
    ∷ 5 unless every (block_count b) (λ k. count_right b k && weight_right b k)
    ∷ 6 unless every (block_count b) (spare_right b)
    ∷ []

-- What a sheet's bytes are read as.
unfoldable pub read_sheet : (n start : ℕ) → Bytes → Checked Sheet
read_sheet n start b = decided (sheet_grounds n start b) (sheet_of b)
