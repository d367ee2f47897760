-- The truth of state formulas: a table, 32 places a node, 1 where the node is true in a state.
use Rattle.std.specs.Prelude.{ℕ, ◌+◌, ◌*◌, ◌/◌, ◌%◌, ◌<◌, ◌≡◌, [], get_or}
use Rattle.logic.specs.Formula.{depth}
use Rattle.logic.specs.promises.Total.{value_of}
use Rattle.blocks.specs.Bytes.{Bytes}
use Rattle.prepared_model.specs.promises.Rows.{model_in}
use Rattle.questions.specs.Layout.{node_of}
use Rattle.prepared_question.specs.promises.Nodes.{formula}
use Rattle.evaluation.specs.promises.Reached.{Reached}

-- The table is right wherever the truth of node c in s can depend on it.
pub record Told (m q truth : Bytes) (c s : ℕ) : Type 0 where
  pub right : (j t : ℕ) → Reached m q c s j t → depth (formula q j) ≡ 0 → get_or truth (32 * j + t) 0 ≡ value_of (model_in m) (formula q j) t []

-- It is right wherever the children of node j, read in s, can depend on it.
pub record Supplied (m q truth : Bytes) (j s : ℕ) : Type 0 where
  pub under_not : (node_of q j).operator ≡ 3 → Told m q truth (node_of q j).left s
  pub and_left : (node_of q j).operator ≡ 4 → Told m q truth (node_of q j).left s
  pub and_right : (node_of q j).operator ≡ 4 → Told m q truth (node_of q j).right s
  pub under_plan : (node_of q j).operator ≡ 8 → Told m q truth (node_of q j).left s

-- It is right at the marked places before k.
pub record Right (m q need truth : Bytes) (k : ℕ) : Type 0 where
  pub at : (x : ℕ) → x < k → get_or need x 0 ≡ 1 → depth (formula q (x / 32)) ≡ 0 → get_or truth x 0 ≡ value_of (model_in m) (formula q (x / 32)) (x % 32) []
