-- Which nodes of a question are used. Document 01, "Formulas", for the children of nodes; document 02, A.6: "each node must be reached from
-- the root by following children".
use Rattle.std.specs.Prelude.{ℕ, zero, suc, ◌-◌, ◌<◌, Bool, ◌||◌, eqb, get_or}
use mathlib.Core.List.{List, [], ◌∷◌, Memᴰ}
use Rattle.logic.specs.Lists.{any, every}
use Rattle.logic.specs.Formula.{Node}
use Rattle.blocks.specs.Bytes.{Bytes}
use Rattle.questions.specs.Layout.{node_count, node_of}

-- The children by the operator's number, a row for each from 0 to 9, where the left cell and the right cell hold these numbers: "not" (3),
-- "next" (6) and "plan" (8) have one child, "and" (4) has two. A cell that a row leaves out holds a proposition, an action, a relation, operator
-- 9's l and u, or nothing.
abbrev pub children_by : (left right operator : ℕ) → List ℕ
children_by left right operator =
    get_or
    ([]
    ∷ []
    ∷ []
    ∷ (left ∷ [])
    ∷ (left ∷ right ∷ [])
    ∷ []
    ∷ (left ∷ [])
    ∷ []
    ∷ (left ∷ [])
    ∷ []
    ∷ [])
    operator
    []

unfoldable pub children : Node → List ℕ
children x = children_by x.left x.right x.operator

-- Node j is reached from node i by following children: it is i, or it is reached from a child of i.
pub data Reaches (b : Bytes) : ℕ → ℕ → Type 0 where
  here : {i : ℕ} → Reaches b i i
  along : {i c j : ℕ} → Memᴰ c (children (node_of b i)) → Reaches b c j → Reaches b i j

-- Every node is reached from the root, which is the last one.
abbrev pub AllReached : Bytes → Type 0
AllReached b = (j : ℕ) → j < node_count b → Reaches b (node_count b - 1) j

-- The same as a test: j is reached from i by following children at most k times.
unfoldable pub reaches : Bytes → (k i j : ℕ) → Bool
reaches b zero i j = eqb i j
reaches b (suc k) i j = eqb i j || any (λ c. reaches b k c j) (children (node_of b i))

-- A child has a smaller number than its node (ground 5), so that no node is further from the root than there are nodes. Of a question that
-- passes the grounds before 13, this test passes exactly if every node is reached: proved (`AllReached`), and part of demand 2.
unfoldable pub all_reached : Bytes → Bool
all_reached b = every (node_count b) (reaches b (node_count b) (node_count b - 1))
