-- What the tests on nodes are handed: every node is tested on one ground before the next ground is looked at.
use Rattle.std.specs.Prelude.{ℕ, ◌≤◌, true, ◌≡◌, List, length}
use Rattle.logic.specs.Lists.{every}
use Rattle.logic.specs.Formula.{depth}
use Rattle.blocks.specs.Bytes.{Bytes}
use Rattle.questions.specs.Layout.{node_count, node_of, formulas_of}
use Rattle.questions.specs.Grounds.{node_in_range}
use Rattle.questions.specs.promises.Tables.{table}

-- A block whose node count was found right, and the depths of its nodes.
pub record Nodes (b : Bytes) (depths : List ℕ) : Type 0 where
  pub size : length b ≡ 512
  pub some : 1 ≤ node_count b
  pub few : node_count b ≤ 40
  pub held : depths ≡ table depth (formulas_of b)

-- The nodes were found in range, for a model of some actions and propositions.
abbrev pub InRangeOfSome : Bytes → Type 0
InRangeOfSome b = (A N : ℕ) × (every (node_count b) (λ i. node_in_range A N i (node_of b i)) ≡ true)
