-- How the code finds out whether all nodes are reached: it marks the children of all nodes.
use Rattle.std.specs.Prelude.{ℕ, ◌≤◌, ◌<◌, ◌≡◌, ◌↔◌, Bool, not, get_or, length, set}
use mathlib.Core.List.{List, [], ◌∷◌, Memᴰ}
use Rattle.logic.specs.Lists.{is_empty}
use Rattle.blocks.specs.Bytes.{Bytes}
use Rattle.questions.specs.Layout.{node_count, node_of}
use Rattle.questions.specs.Children.{children_by, children}

-- The operators whose left cell holds a child: those with children.
unfoldable pub has_left : ℕ → Bool
has_left op = not (is_empty (children_by 0 0 op))

-- The children of a node have smaller numbers than its own (ground 5), and the marks have room for all.
pub record Downward (b : Bytes) : Type 0 where
  pub few : node_count b ≤ 40
  pub below : (i c : ℕ) → i < node_count b → Memᴰ c (children (node_of b i)) → c < i

-- Each of the places gets a mark.
unfoldable pub mark_each : List ℕ → List ℕ → List ℕ
mark_each [] marks = marks
mark_each (c ∷ cs) marks = mark_each cs (set marks c 1)

-- Node j is a child of one of the first n nodes.
abbrev pub ChildOfFirst : Bytes → (n j : ℕ) → Type 0
ChildOfFirst b n j = (i : ℕ) × (i < n) × Memᴰ j (children (node_of b i))

-- The marks stand at the children of the first n nodes, and of all.
pub record MarksOf (b : Bytes) (n : ℕ) (marks : List ℕ) : Type 0 where
  pub size : length marks ≡ 40
  pub marked : (j : ℕ) → j < 40 → (get_or marks j 0 ≡ 1) ↔ ChildOfFirst b n j

abbrev pub Marks : Bytes → List ℕ → Type 0
Marks b marks = MarksOf b (node_count b) marks
