-- What the evaluation of a condition reads: the nodes and states that it can reach, the order of its nodes, and the tables made for it.
use Rattle.std.specs.Prelude.{ℕ, ◌+◌, ◌*◌, ◌-◌, ◌<◌, ◌≡◌, true, List, [], ◌++◌, get_or, length}
use Rattle.logic.specs.Model.{Step}
use Rattle.logic.specs.Formula.{depth}
use Rattle.logic.specs.promises.Total.{value_of}
use Rattle.blocks.specs.Bytes.{Bytes}
use Rattle.models.specs.Layout.{state_count, action_count, prop_count}
use Rattle.prepared_model.specs.promises.Rows.{step_in, Offers, model_in, Prepared}
use Rattle.questions.specs.Layout.{node_count, node_of}
use Rattle.prepared_question.specs.promises.Nodes.{formula, reads_left, Nodes}
use Rattle.evaluation.specs.promises.Path.{steps_of}

-- The pairs of a node and a state on which the truth of node c in s can depend, on whatever path. `m` is a prepared model here and above,
-- `q` a prepared question.
pub data Reached (m q : Bytes) (c s : ℕ) : ℕ → ℕ → Type 0 where
  itself : Reached m q c s c s
  under_not : {j t : ℕ} → Reached m q c s j t → (node_of q j).operator ≡ 3 → Reached m q c s (node_of q j).left t
  and_left : {j t : ℕ} → Reached m q c s j t → (node_of q j).operator ≡ 4 → Reached m q c s (node_of q j).left t
  and_right : {j t : ℕ} → Reached m q c s j t → (node_of q j).operator ≡ 4 → Reached m q c s (node_of q j).right t
  under_next : {j t : ℕ} (i o : ℕ) → Reached m q c s j t → (node_of q j).operator ≡ 6 → Offers m t i o
      → Reached m q c s (node_of q j).left (step_in m t i o).target

-- Node j stands in the list before place i.
abbrev pub Earlier : List ℕ → ℕ → ℕ → Type 0
Earlier l i j = (e : ℕ) × (e < i) × (get_or l e 0 ≡ j)

-- The nodes of a condition, children before parents, the condition's own last; or none, where no condition is asked for. A state formula's
-- children are not asked for: its truth is in a table.
pub record Cone (q : Bytes) (cone : List ℕ) : Type 0 where
  pub nodes : (i : ℕ) → i < length cone → get_or cone i 0 < node_count q
  pub lefts : (i : ℕ) → i < length cone → (depth (formula q (get_or cone i 0)) ≡ 0 → ⊥) → reads_left (node_of q (get_or cone i 0)).operator ≡ true
      → Earlier cone i (node_of q (get_or cone i 0)).left
  pub rights : (i : ℕ) → i < length cone → (depth (formula q (get_or cone i 0)) ≡ 0 → ⊥) → (node_of q (get_or cone i 0)).operator ≡ 4
      → Earlier cone i (node_of q (get_or cone i 0)).right

abbrev pub root_of : List ℕ → ℕ
root_of cone = get_or cone (length cone - 1) 0

-- The value of the condition at the cone's root on the path that begins with the trail t and goes on with r.
abbrev pub on_path : (m q : Bytes) (start : ℕ) (cone t : List ℕ) → List Step → ℕ
on_path m q start cone t r = value_of (model_in m) (formula q (root_of cone)) start (steps_of m start t ++ r)

-- What a search from s for the condition at the root of a cone, if it has nodes, is handed. `truth` has 32 places a node: 1 where a state
-- formula is true in a state, and it has to be right only where it is read.
pub record Ready (m q : Bytes) (s : ℕ) (truth cone : List ℕ) : Type 0 where
  pub prepared : Prepared m
  pub nodes : Nodes (state_count m) (action_count m) (prop_count m) q
  pub state : s < state_count m
  pub ordered : Cone q cone
  pub truth_right : 0 < length cone → (j t : ℕ) → Reached m q (root_of cone) s j t → depth (formula q j) ≡ 0
      → get_or truth (32 * j + t) 0 ≡ value_of (model_in m) (formula q j) t []
