-- Which nodes of a condition matter with the last step: those on whose values, known with that step, the condition's value depends.
use Rattle.std.specs.Prelude.{ℕ, ◌<◌, ◌≤◌, ◌≡◌, ◌⊎◌, true, List, get_or, length}
use Rattle.logic.specs.Formula.{depth}
use Rattle.blocks.specs.Bytes.{Bytes}
use Rattle.questions.specs.Layout.{node_count, node_of}
use Rattle.prepared_question.specs.promises.Nodes.{formula, depth_in, reads_left}
use Rattle.evaluation.specs.promises.Reached.{root_of}

-- What marking knows of a prepared question: there is a mark for each node, and the depths that it reads are the nodes'.
pub record Deep (q : Bytes) : Type 0 where
  pub few : node_count q ≤ 40
  pub deep : (j : ℕ) → j < node_count q → depth_in q j ≡ depth (formula q j)

-- With node j are marked the children whose values become known with the same step: the child of "not" and of "next", and of "and" each
-- that looks as far ahead. A state formula has none.
pub record PassedOn (q marks : List ℕ) (j : ℕ) : Type 0 where
  pub under_not : (depth_in q j ≡ 0 → ⊥) → (node_of q j).operator ≡ 3 → get_or marks (node_of q j).left 0 ≡ 1
  pub and_left : (depth_in q j ≡ 0 → ⊥) → (node_of q j).operator ≡ 4 → depth_in q (node_of q j).left ≡ depth_in q j
      → get_or marks (node_of q j).left 0 ≡ 1
  pub and_right : (depth_in q j ≡ 0 → ⊥) → (node_of q j).operator ≡ 4 → depth_in q (node_of q j).right ≡ depth_in q j
      → get_or marks (node_of q j).right 0 ≡ 1
  pub under_next : (depth_in q j ≡ 0 → ⊥) → (node_of q j).operator ≡ 6 → get_or marks (node_of q j).left 0 ≡ 1

-- There is a condition; it is marked itself, and with each marked node the children on which it depends.
pub record Late (q : Bytes) (cone marks : List ℕ) : Type 0 where
  pub some : 0 < length cone
  pub root : get_or marks (root_of cone) 0 ≡ 1
  pub closed : (i : ℕ) → i < length cone → get_or marks (get_or cone i 0) 0 ≡ 1 → PassedOn q marks (get_or cone i 0)

-- Node j depends directly on node k: the same children, from the child's side.
abbrev pub TurnsOn : (q : Bytes) (j k : ℕ) → Type 0
TurnsOn q j k =
    (depth_in q j ≡ 0 → ⊥)
    × (((((node_of q j).operator ≡ 3) ⊎ ((node_of q j).operator ≡ 6)) × (k ≡ (node_of q j).left))
    ⊎ (((node_of q j).operator ≡ 4) × (depth_in q k ≡ depth_in q j) × ((k ≡ (node_of q j).left) ⊎ (k ≡ (node_of q j).right))))

-- Node j has a place among 40 marks, and so have the children that its values on a path are made of.
pub record Placed (q : Bytes) (j : ℕ) : Type 0 where
  pub self : j < 40
  pub left : (depth_in q j ≡ 0 → ⊥) → reads_left (node_of q j).operator ≡ true → (node_of q j).left < 40
  pub right : (depth_in q j ≡ 0 → ⊥) → (node_of q j).operator ≡ 4 → (node_of q j).right < 40
