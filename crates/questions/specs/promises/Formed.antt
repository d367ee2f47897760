-- What judging asks of a question, whoever made it: a block that put accepts has it, and so has what judging makes of one for itself. It is
-- what grounds 4, 5 and 9 rule out, as plain facts. (Grounds 1 to 3 and 6 concern the block and not the question in it. What judging makes may
-- have nodes that nobody uses: ground 13 is asked of what is put.)
use Rattle.std.specs.Prelude.{ℕ, ◌/◌, ◌%◌, ◌≤◌, ◌<◌, ◌≡◌, Bool, true, false, ◌||◌, eqb, pos, get_or}
use Rattle.std.specs.Int.Signed.{mag}
use Rattle.logic.specs.Formula.{never, Node, is_path, shallow, nonnegative}
use Rattle.blocks.specs.Bytes.{Bytes}
use Rattle.questions.specs.Layout.{start_of, node_count, node_of, formulas_of, question_of}

-- ---- a node's fields

-- The steps and the relation of a "gain", a "plan" or operator 9.
pub record Compares (x : Node) : Type 0 where
  pub some_step : 1 ≤ x.n
  pub few_steps : x.n ≤ 6
  pub relation_from : 1 ≤ x.right
  pub relation_to : x.right ≤ 3

pub record GainRange (x : Node) : Type 0 where
  pub compares : Compares x
  pub bound : mag x.p ≤ 6000
  pub whole : x.q ≡ 1

pub record PlanRange (i : ℕ) (x : Node) : Type 0 where
  pub compares : Compares x
  pub child : x.left < i
  pub some_part : 1 ≤ x.q
  pub few_parts : x.q ≤ 1000000
  pub whole : x.p ≡ pos (nonnegative x.p)
  pub bound : nonnegative x.p ≤ x.q

-- Operator 9: the steps l to u that earn, p and q.
pub record EarnsRange (x : Node) : Type 0 where
  pub compares : Compares x
  pub from_one : 1 ≤ x.left % 8
  pub rising : x.left % 8 ≤ x.left / 8
  pub within : x.left / 8 ≤ x.n
  pub some_part : 1 ≤ x.q
  pub few_parts : x.q ≤ 1000
  pub bound : mag x.p ≤ 6000000

pub record InRange (A N i : ℕ) (x : Node) : Type 0 where
  pub operator_from : 1 ≤ x.operator
  pub operator_to : x.operator ≤ 9
  pub of_prop : x.operator ≡ 2 → x.left < N
  pub of_neg : x.operator ≡ 3 → x.left < i
  pub of_both : x.operator ≡ 4 → (x.left < i) × (x.right < i)
  pub of_does : x.operator ≡ 5 → x.left < A
  pub of_next : x.operator ≡ 6 → x.left < i
  pub of_gain : x.operator ≡ 7 → GainRange x
  pub of_plan : x.operator ≡ 8 → PlanRange i x
  pub of_earns : x.operator ≡ 9 → EarnsRange x

-- The operators that set a bound on plans: "plan", and 9.
unfoldable pub sets_bound : ℕ → Bool
sets_bound op = eqb op 8 || eqb op 9

-- ---- the question

-- For a model of S states, A actions and N propositions.
pub record Formed (S A N : ℕ) (b : Bytes) : Type 0 where
  pub starts : start_of b < S
  pub some_node : 1 ≤ node_count b
  pub few_nodes : node_count b ≤ 40
  pub in_range : (i : ℕ) → i < node_count b → InRange A N i (node_of b i)
  pub root_state : is_path (question_of b).root ≡ false
  pub shallow : (i : ℕ) → i < node_count b → shallow (get_or (formulas_of b) i never) ≡ true
