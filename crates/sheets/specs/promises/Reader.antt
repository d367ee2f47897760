-- How the reader goes over the blocks: every block is tested on one ground before the next ground is looked at.
use Rattle.std.specs.Prelude.{ℕ, ◌<◌, ◌≤◌, true, ◌≡◌, List, ◌++◌, length, drop}
use Rattle.logic.specs.Lists.{every}
use Rattle.blocks.specs.Bytes.{Bytes}
use Rattle.blocks.specs.Block.{block_count, whole_blocks}
use Rattle.sheets.specs.Grounds.{count_right}

-- What a ground is tested on: the blocks' number is right and, past ground 5, so are their counts.
pub record Blocks (ground_no : ℕ) (b : Bytes) : Type 0 where
  pub from : 3 ≤ ground_no
  pub whole : whole_blocks 1 3 b ≡ true
  pub counted : 5 < ground_no → every (block_count b) (count_right b) ≡ true

-- The choices of a sheet stand at the front of out', r of them, and after them what out had.
pub record Gathered (choices out out' : List ℕ) (r : ℕ) : Type 0 where
  pub front : out' ≡ choices ++ drop r out
  pub count : r ≡ length choices
  pub few : r ≤ 1470
