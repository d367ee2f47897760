-- The children of a question's nodes replaced, from the first node up, by the nodes that they come down to.
use Rattle.std.specs.Prelude.{ℕ, ◌+◌, ◌<◌, ◌≤◌, ◌≡◌, Bool, true, cond, ◌&&◌, eqb, length}
use Rattle.logic.specs.Formula.{depth}
use Rattle.blocks.specs.Bytes.{Bytes, byte}
use Rattle.questions.specs.Layout.{node_count, node_at, node_of}
use Rattle.questions.specs.promises.Used.{has_left}
use Rattle.prepared_question.specs.promises.Nodes.{formula, depth_in}

-- One block of few nodes, of depths that fit a byte; and the children of a node have smaller numbers than its own.
pub record ChildrenBefore (q : Bytes) : Type 0 where
  pub size : length q ≡ 512
  pub few : node_count q ≤ 40
  pub deep : (i : ℕ) → i < node_count q → depth (formula q i) < 256
  pub left : (i : ℕ) → i < node_count q → has_left (node_of q i).operator ≡ true → (node_of q i).left < i
  pub right : (i : ℕ) → i < node_count q → (node_of q i).operator ≡ 4 → (node_of q i).right < i

-- Whether node c is an "and" of one node with itself.
unfoldable pub doubled : Bytes → ℕ → Bool
doubled b c = eqb (node_of b c).operator 4 && eqb (node_of b c).left (node_of b c).right

-- The node that node c comes down to, where the nodes before c are pointed past such nodes.
unfoldable pub past : Bytes → ℕ → ℕ
past b c = cond (doubled b c) (node_of b c).left c

-- The cells of node i of q once its children are replaced, b being what the nodes before i have become.
unfoldable pub left_for : (q b : Bytes) → ℕ → ℕ
left_for q b i = cond (has_left (node_of q i).operator) (past b (node_of q i).left) (node_of q i).left

unfoldable pub right_for : (q b : Bytes) → ℕ → ℕ
right_for q b i = cond (eqb (node_of q i).operator 4) (past b (node_of q i).right) (node_of q i).right

-- Byte k is no cell of a child of the first n nodes.
abbrev pub Elsewhere : ℕ → ℕ → Type 0
Elsewhere n k = (i : ℕ) → i < n → (k ≡ node_at i + 2 → ⊥) × (k ≡ node_at i + 3 → ⊥)

-- b is the question with the children of its first n nodes replaced, and has their depths behind the block.
pub record Pointed (q b : Bytes) (n : ℕ) : Type 0 where
  pub size : length b ≡ 552
  pub others : (k : ℕ) → k < 512 → Elsewhere n k → byte b k ≡ byte q k
  pub left : (i : ℕ) → i < n → byte b (node_at i + 2) ≡ left_for q b i
  pub right : (i : ℕ) → i < n → byte b (node_at i + 3) ≡ right_for q b i
  pub deep : (i : ℕ) → i < n → depth_in b i ≡ depth (formula q i)
