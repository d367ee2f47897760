-- Which rows of a table of totals the nodes of a question need, and tables that have them.
use Rattle.std.specs.Prelude.{ℕ, ◌+◌, ◌<◌, ◌≤◌, ◌≡◌, Bool, true, List}
use Rattle.blocks.specs.Bytes.{Bytes}
use Rattle.questions.specs.Layout.{node_count, node_of}
use Rattle.prepared_model.specs.promises.Rows.{model_in}
use Rattle.limits.specs.promises.Totals.{Totals, bounded}

-- So many rows are enough for the first nodes of a question.
pub record Needed (plans : Bool) (q : Bytes) (nodes rows : ℕ) : Type 0 where
  pub few : rows ≤ 7
  pub enough : (i : ℕ) → i < nodes → bounded plans (node_of q i) ≡ true → (node_of q i).n < rows

-- The table has for each node to which the limit is set the rows up to its steps.
pub record Serves (plans : Bool) (m q : Bytes) (table : List ℕ) : Type 0 where
  pub up_to : (i : ℕ) → i < node_count q → bounded plans (node_of q i) ≡ true → Totals plans (model_in m) ((node_of q i).n + 1) table

-- The numbers of plans: all rows, if there is a node whose plans are counted.
pub record Counted (m q : Bytes) (table : List ℕ) : Type 0 where
  pub all : (i : ℕ) → i < node_count q → bounded true (node_of q i) ≡ true → Totals true (model_in m) 7 table
