-- What the bytes of an accepted model promise to those who read its rows in place.
use Rattle.std.specs.Prelude.{ℕ, ◌<◌, ◌≤◌}
use Rattle.blocks.specs.Bytes.{Bytes}
use Rattle.models.specs.Layout.{state_count, action_count, post_count, outcome_of, entries}

pub record Readable (b : Bytes) : Type 0 where
  pub states : state_count b ≤ 32
  pub actions : action_count b ≤ 8
  pub some_post : {a : ℕ} → a < action_count b → 1 ≤ post_count b a
  pub few_posts : {a : ℕ} → a < action_count b → post_count b a ≤ 4
  pub inside : (s a : ℕ) {i : ℕ} → i < entries b s a → (outcome_of b s a i).target < state_count b
