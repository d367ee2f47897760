-- What a search is handed for a node that sets a bound on plans: the first `count` nodes are those of its condition, or none for operator 9; the steps
-- before those that are looked at, and the last that is.
use Rattle.std.specs.Prelude.{ℕ, ◌≤◌, ◌<◌, ◌≡◌, List, length, take}
use Rattle.logic.specs.Formula.{depth}
use Rattle.blocks.specs.Bytes.{Bytes}
use Rattle.questions.specs.Layout.{node_of}
use Rattle.prepared_question.specs.promises.Nodes.{formula}
use Rattle.evaluation.specs.promises.Reached.{Cone, root_of}
use Rattle.bounds.specs.promises.Bounded.{span_before, span_last}

pub record Looks (q : Bytes) (j : ℕ) (nodes : List ℕ) (count before last : ℕ) : Type 0 where
  pub few : count ≤ 40
  pub size : length nodes ≡ 40
  pub of_plan : (node_of q j).operator ≡ 8
      → Cone q (take count nodes) × (root_of (take count nodes) ≡ (node_of q j).left) × (0 < length (take count nodes)) × (before ≡ 0)
      × (last ≡ depth (formula q (node_of q j).left))
  pub of_earns : (node_of q j).operator ≡ 9 → (count ≡ 0) × (before ≡ span_before q j) × (last ≡ span_last q j)
