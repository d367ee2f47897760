-- What is kept of a question when the children of its nodes are replaced by nodes of the same meaning: it is formed, and each node asks for
-- the same. So the verdict and the limits are the same (`SameVerdict`).
use Rattle.std.specs.Prelude.{ℕ, ◌<◌, ◌≡◌, true, List}
use Rattle.logic.specs.Model.{Model, Step}
use Rattle.logic.specs.Formula.{Formula, sat, depth, is_path, shallow}
use Rattle.logic.specs.Verdict.{bound_of}
use Rattle.blocks.specs.Bytes.{Bytes}
use Rattle.questions.specs.Layout.{start_of, node_count, node_of}
use Rattle.questions.specs.promises.Used.{has_left}
use Rattle.prepared_question.specs.promises.Nodes.{formula, Nodes}

-- True on the same paths, of one depth, and both path formulas or both state formulas.
pub record Same (φ ψ : Formula) : Type 0 where
  pub depths : depth φ ≡ depth ψ
  pub paths : is_path φ ≡ is_path ψ
  pub truths : (M : Model) (s : ℕ) (r : List Step) → sat M φ s r ≡ sat M ψ s r

-- The same for whoever judges: in meaning, to ground 9, and in the bound that is set on plans.
pub record Alike (φ ψ : Formula) : Type 0 where
  pub same : Same φ ψ
  pub ground_9 : shallow φ ≡ shallow ψ
  pub bounds : (m : Model) (s : ℕ) → bound_of m s φ ≡ bound_of m s ψ

-- Node j is an "and" of one node with itself.
abbrev pub Doubled : Bytes → ℕ → Type 0
Doubled q j = ((node_of q j).operator ≡ 4) × ((node_of q j).left ≡ (node_of q j).right)

-- q' is the prepared form of q, for a model of S states, A actions and N propositions: it is q node by node, and no node points to an
-- "and" of one node with itself.
pub record Shared (S A N : ℕ) (q q' : Bytes) : Type 0 where
  pub nodes : Nodes S A N q'
  pub count : node_count q' ≡ node_count q
  pub start : start_of q' ≡ start_of q
  pub operators : (j : ℕ) → j < node_count q → (node_of q' j).operator ≡ (node_of q j).operator
  pub alike : (j : ℕ) → j < node_count q → Alike (formula q j) (formula q' j)
  pub past_left : (j : ℕ) → j < node_count q → has_left (node_of q' j).operator ≡ true → Doubled q' (node_of q' j).left → ⊥
  pub past_right : (j : ℕ) → j < node_count q → (node_of q' j).operator ≡ 4 → Doubled q' (node_of q' j).right → ⊥
