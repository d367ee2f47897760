-- The nodes of a condition: marks on the nodes that its values are made of, and the list of the marked ones.
use Rattle.std.specs.Prelude.{ℕ, ◌<◌, ◌≤◌, ◌≡◌, true, List, get_or}
use Rattle.logic.specs.Formula.{depth}
use Rattle.blocks.specs.Bytes.{Bytes}
use Rattle.questions.specs.Layout.{node_of}
use Rattle.prepared_question.specs.promises.Nodes.{formula, reads_left, Nodes}
use Rattle.evaluation.specs.promises.Reached.{Earlier}

-- A prepared question, for whatever model.
abbrev pub Asked : Bytes → Type 0
Asked q = (S : ℕ) × (A : ℕ) × (N : ℕ) × Nodes S A N q

-- The children that the values of node j on a path are made of are marked; a state formula is not entered.
pub record Entered (q : Bytes) (marks : List ℕ) (j : ℕ) : Type 0 where
  pub left : (depth (formula q j) ≡ 0 → ⊥) → reads_left (node_of q j).operator ≡ true → get_or marks (node_of q j).left 0 ≡ 1
  pub right : (depth (formula q j) ≡ 0 → ⊥) → (node_of q j).operator ≡ 4 → get_or marks (node_of q j).right 0 ≡ 1

-- The condition c is marked, no node after it is, and each marked node is entered.
pub record Chosen (q : Bytes) (c : ℕ) (marks : List ℕ) : Type 0 where
  pub top : get_or marks c 0 ≡ 1
  pub last : (j : ℕ) → get_or marks j 0 ≡ 1 → j ≤ c
  pub entered : (j : ℕ) → get_or marks j 0 ≡ 1 → Entered q marks j

-- The first n places of `out` list the marked nodes below i, rising.
pub record Listed (marks : List ℕ) (i n : ℕ) (out : List ℕ) : Type 0 where
  pub few : n ≤ i
  pub nodes : (e : ℕ) → e < n → (get_or out e 0 < i) × (get_or marks (get_or out e 0) 0 ≡ 1)
  pub all : (j : ℕ) → j < i → get_or marks j 0 ≡ 1 → Earlier out n j
  pub rising : (e f : ℕ) → e < f → f < n → get_or out e 0 < get_or out f 0
