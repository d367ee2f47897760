-- Conditions in a state: what is left of one when the state formulas that it joins are read there, and the best totals that searches found.
use Rattle.std.specs.Prelude.{ℕ, ◌+◌, ◌*◌, ◌<◌, ◌≡◌, Bool, Option, None, Some, List, get_or, length, take}
use Rattle.logic.specs.Model.{Step}
use Rattle.logic.specs.promises.Orders.{weights, order}
use Rattle.logic.specs.Plan.{choices}
use Rattle.logic.specs.Formula.{depth}
use Rattle.logic.specs.Bound.{one_if}
use Rattle.logic.specs.promises.Total.{value_of}
use Rattle.logic.specs.promises.Recursion.{greatest}
use Rattle.blocks.specs.Bytes.{Bytes}
use Rattle.models.specs.Layout.{state_count, action_count, prop_count}
use Rattle.prepared_model.specs.promises.Rows.{model_in}
use Rattle.questions.specs.Layout.{node_count}
use Rattle.prepared_question.specs.promises.Nodes.{formula, Nodes}
use Rattle.best_plan.specs.declared.Found.{Found}
use Rattle.judging.specs.promises.Truth.{Told}
use Rattle.judging.specs.promises.Decided.{best}

-- Node c of a question prepared for the model, in the state s, with a table that is right wherever its truth there can depend on it.
pub record Stands (m q truth : Bytes) (c s : ℕ) : Type 0 where
  pub nodes : Nodes (state_count m) (action_count m) (prop_count m) q
  pub node : c < node_count q
  pub state : s < state_count m
  pub told : Told m q truth c s

-- ---- what is left

-- Node i looks as far ahead as c and has its value on every path from s.
pub record Same (m q truth : Bytes) (c s i : ℕ) : Type 0 where
  pub stands : Stands m q truth i s
  pub looks : depth (formula q i) ≡ depth (formula q c)
  pub values : (r : List Step) → value_of (model_in m) (formula q i) s r ≡ value_of (model_in m) (formula q c) s r

-- In every model: c is false on every path from s and nothing is left, or the node left is the same.
pub record Peels (q truth : Bytes) (c s : ℕ) (r : Option ℕ) : Type 0 where
  pub never : (m : Bytes) → Stands m q truth c s → r ≡ None → (p : List Step) → value_of (model_in m) (formula q c) s p ≡ 0
  pub left : (m : Bytes) → Stands m q truth c s → (i : ℕ) → r ≡ Some i → Same m q truth c s i

-- ---- best totals

-- The greatest total of condition c over as many steps as it looks ahead, or the least.
abbrev pub best_total : (m q : Bytes) (c s : ℕ) → (least : Bool) → ℕ
best_total m q c s least = greatest (weights (order least)) (model_in m) (depth (formula q c)) s (value_of (model_in m) (formula q c) s)

-- What a search for condition c finds.
pub record Searched (m q : Bytes) (c s : ℕ) (least : Bool) (after : List ℕ) (r : Found) : Type 0 where
  pub value : r.value ≡ best_total m q c s least
  pub chosen : take r.count after ≡ choices (depth (formula q c)) (best (model_in m) (formula q c) (depth (formula q c)) s least)

-- Where the best total of c in s is remembered.
abbrev pub memo_place : (c s : ℕ) → (least : Bool) → ℕ
memo_place c s least = 64 * c + 2 * s + one_if least

-- What is remembered is right: 0, or one more than the best total.
pub record Remembers (m q : Bytes) (memo : List ℕ) : Type 0 where
  pub size : length memo ≡ 2560
  pub at : (c s : ℕ) (least : Bool) → c < node_count q → s < state_count m → (get_or memo (memo_place c s least) 0 ≡ 0 → ⊥)
      → get_or memo (memo_place c s least) 0 ≡ 1 + best_total m q c s least
