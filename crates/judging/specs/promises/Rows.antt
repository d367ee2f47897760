-- The rows of the table of truth: how a node's row is filled, and what is right after it.
use Rattle.std.specs.Prelude.{ℕ, ◌+◌, ◌*◌, ◌<◌, ◌≡◌, List, [], get_or, length}
use Rattle.logic.specs.promises.Total.{value_of}
use Rattle.blocks.specs.Bytes.{Bytes}
use Rattle.prepared_model.specs.promises.Rows.{model_in}
use Rattle.questions.specs.Layout.{node_of}
use Rattle.prepared_question.specs.promises.Nodes.{formula}
use Rattle.relevance.specs.promises.Need.{Needs}
use Rattle.judging.specs.promises.Truth.{Right}
use Rattle.judging.specs.promises.Conditions.{Remembers}

-- Operator 9 with "less" or "greater" is decided by one table for all states, every other node in each state by itself.
abbrev pub ByTable : Bytes → ℕ → Type 0
ByTable q j = ((node_of q j).operator ≡ 9) × ((node_of q j).right ≡ 2 → ⊥)

abbrev pub ByState : Bytes → ℕ → Type 0
ByState q j = (node_of q j).operator ≡ 9 → (node_of q j).right ≡ 2

-- The rows before node j are right where they are needed, and what searches use is at hand.
pub record Rows (m q need truth scratch memo : List ℕ) (j : ℕ) : Type 0 where
  pub needs : Needs m q need
  pub size : length truth ≡ 1280
  pub right : Right m q need truth (32 * j)
  pub room : length scratch ≡ 4095
  pub remembers : Remembers m q memo

-- The first n states of node j's row are right, and nothing before the row has changed.
pub record RowTold (m q : Bytes) (j : ℕ) (before after : List ℕ) (n : ℕ) : Type 0 where
  pub size : length after ≡ length before
  pub told : (s : ℕ) → s < n → get_or after (32 * j + s) 0 ≡ value_of (model_in m) (formula q j) s []
  pub others : (k : ℕ) → k < 32 * j → get_or after k 0 ≡ get_or before k 0
