-- On which pairs of a node and a state the verdict can depend: a table of marks, 32 places a node, 1 for such a pair.
use Rattle.std.specs.Prelude.{ℕ, ◌+◌, ◌*◌, ◌-◌, ◌/◌, ◌%◌, ◌<◌, ◌≡◌, List, get_or}
use Rattle.blocks.specs.Bytes.{Bytes}
use Rattle.models.specs.Layout.{state_count, action_count, prop_count}
use Rattle.prepared_model.specs.promises.Rows.{step_in, Offers, Prepared}
use Rattle.questions.specs.Layout.{start_of, node_count, node_of}
use Rattle.prepared_question.specs.promises.Nodes.{Nodes}

-- What is judged: a question for a model, both prepared.
pub record Given (m q : Bytes) : Type 0 where
  pub prepared : Prepared m
  pub nodes : Nodes (state_count m) (action_count m) (prop_count m) q

abbrev pub Marked : List ℕ → ℕ → ℕ → Type 0
Marked need j s = get_or need (32 * j + s) 0 ≡ 1

-- The pairs on which the truth of node j in s depends directly are marked.
pub record PassedOn (m q : Bytes) (need : List ℕ) (j s : ℕ) : Type 0 where
  pub under_not : (node_of q j).operator ≡ 3 → Marked need (node_of q j).left s
  pub and_left : (node_of q j).operator ≡ 4 → Marked need (node_of q j).left s
  pub and_right : (node_of q j).operator ≡ 4 → Marked need (node_of q j).right s
  pub under_next : (node_of q j).operator ≡ 6 → (i o : ℕ) → Offers m s i o → Marked need (node_of q j).left (step_in m s i o).target
  pub under_plan : (node_of q j).operator ≡ 8 → Marked need (node_of q j).left s

-- A place before b, of one of S states.
abbrev pub Below : (S b k : ℕ) → Type 0
Below S b k = (k < b) × (k % 32 < S)

-- The root in the start state is marked, and with a pair all on which it depends.
pub record Needs (m q : Bytes) (need : List ℕ) : Type 0 where
  pub root : Marked need (node_count q - 1) (start_of q)
  pub inside : (k : ℕ) → get_or need k 0 ≡ 1 → (k < 32 * node_count q) × (k % 32 < state_count m)
  pub closed : (k : ℕ) → get_or need k 0 ≡ 1 → PassedOn m q need (k / 32) (k % 32)
