-- Where a question's fields stand in its block, and the question that they hold. Document 01, "Blocks of 512 bytes", Question.
use Rattle.std.specs.Prelude.{ℕ, ◌+◌, ◌*◌, ◌-◌, List, [], get_or}
use Rattle.logic.specs.Lists.{tabulate}
use Rattle.logic.specs.Formula.{Formula, never, Node, formulas}
use Rattle.blocks.specs.Bytes.{Bytes, byte, u32, i32}

-- A question: a start state and the formulas of all nodes, of which the last is the root.
pub record Question : Type 0 where
  pub start : ℕ
  pub nodes : List Formula
  pub root : Formula

abbrev pub start_of : Bytes → ℕ
start_of b = byte b 2

abbrev pub node_count : Bytes → ℕ
node_count b = byte b 3

-- Nodes of 12 bytes from byte 8: operator, n, left, right, p i32, q u32.
abbrev pub node_at : ℕ → ℕ
node_at i = 8 + 12 * i

unfoldable pub node_of : Bytes → ℕ → Node
node_of b i =
    record {
      operator = byte b (node_at i);
      n = byte b (node_at i + 1);
      left = byte b (node_at i + 2);
      right = byte b (node_at i + 3);
      p = i32 b (node_at i + 4);
      q = u32 b (node_at i + 8);
    }

unfoldable pub formulas_of : Bytes → List Formula
formulas_of b = formulas [] (tabulate (node_count b) (node_of b))

unfoldable pub question_of : Bytes → Question
question_of b = record { start = start_of b; nodes = formulas_of b; root = get_or (formulas_of b) (node_count b - 1) never }
