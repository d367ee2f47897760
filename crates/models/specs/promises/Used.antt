-- What the tests on cells are handed: that the sizes were found right, and a table of the used outcomes of every cell, 8 to a state.
use Rattle.std.specs.Prelude.{ℕ, ◌+◌, ◌*◌, ◌/◌, ◌%◌, ◌<◌, ◌≤◌, ◌≡◌, List, get_or, length}
use Rattle.blocks.specs.Bytes.{Bytes}
use Rattle.models.specs.Layout.{state_count, action_count, post_count, entries}

pub record Used (b : Bytes) (used : List ℕ) : Type 0 where
  pub count : (k : ℕ) → k < 264 → get_or used k 0 ≡ entries b (k / 8) (k % 8)

pub record Sized (b : Bytes) : Type 0 where
  pub some : 1 ≤ state_count b
  pub states : state_count b ≤ 32
  pub actions : action_count b ≤ 8
  pub posts : (a : ℕ) → a < action_count b → post_count b a ≤ 4
  pub bytes : length b ≡ 512 * (1 + (state_count b + 2) / 3)
