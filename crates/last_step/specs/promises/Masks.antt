-- The values that the last step makes known, for all its outcomes at once: a word of lanes for each node.
use Rattle.std.specs.Prelude.{ℕ, ◌+◌, ◌*◌, ◌<◌, ◌≡◌, not, List, [], ◌∷◌, ◌++◌, eqb, ℤ, get_or, length, take, drop}
use Rattle.logic.specs.Formula.{depth}
use Rattle.logic.specs.Bound.{one_if}
use Rattle.logic.specs.promises.Total.{value_of}
use Rattle.blocks.specs.Bytes.{Bytes}
use Rattle.prepared_model.specs.promises.Rows.{step_in, Offers, lane, model_in}
use Rattle.prepared_question.specs.promises.Nodes.{formula, depth_in}
use Rattle.evaluation.specs.promises.Path.{number_of, steps_of, state_after}
use Rattle.evaluation.specs.promises.Reached.{Reached, root_of, on_path, Ready}
use Rattle.evaluation.specs.promises.Learnt.{known}
use Rattle.evaluation.specs.promises.Known.{Knows}
use Rattle.last_step.specs.promises.Lanes.{Lanes, Laned}
use Rattle.last_step.specs.promises.Late.{Late}

-- One step is left of those that the condition looks ahead; the first h numbers of the trail lead from the start to the state s.
pub record BeforeLast (m q : Bytes) (start : ℕ) (truth cone late trail : List ℕ) (gains : List ℤ) (v : List ℕ) (h s : ℕ) : Type 0 where
  pub ready : Ready m q start truth cone
  pub marked : Late q cone late
  pub whole : length (take h trail) ≡ h
  pub knows : Knows m q start cone (take h trail) gains v
  pub state : state_after m start (take h trail) ≡ s
  pub deep : depth (formula q (root_of cone)) ≡ h + 1
  pub few : h < 6

-- The word of node j after the trail t, which led to the state s: in the lane of the outcome o of the choice at place i, the node's value
-- at the place where it becomes known with that outcome.
pub record Worded (m q : Bytes) (start : ℕ) (cone t : List ℕ) (s j x : ℕ) : Type 0 where
  pub right : (k i o : ℕ) → Offers m s i o → k + depth (formula q j) ≡ length t + 1
      → Reached m q (root_of cone) start j (state_after m start (take k (t ++ (number_of m s i o ∷ []))))
      → lane x (4 * i + o) ≡ value_of (model_in m) (formula q j) (state_after m start (take k (t ++ (number_of m s i o ∷ [])))) (drop k (steps_of m start (t ++ (number_of m s i o ∷ []))))

-- The words of the first i nodes of a cone, as far as they are marked.
pub record Masked (m q : Bytes) (start : ℕ) (cone late t : List ℕ) (s i : ℕ) (masks : List ℕ) : Type 0 where
  pub right : (e : ℕ) → e < i → get_or late (get_or cone e 0) 0 ≡ 1 → Worded m q start cone t s (get_or cone e 0) (get_or masks (get_or cone e 0) 0)

-- The word y of a child c of "and" that looks d steps ahead, at place k: the child's own where it looks as far ahead, elsewhere its value, which
-- was known before the last step.
pub record Part (q v masks : List ℕ) (d k c y : ℕ) : Type 0 where
  pub own : depth_in q c ≡ d → y ≡ get_or masks c 0
  pub earlier : (depth_in q c ≡ d → ⊥) → Lanes (λ _. one_if (not (eqb (known v c k) 0))) y

-- The condition's own word: its value on the path that each outcome ends.
abbrev pub Ended : (m q : Bytes) (start : ℕ) (cone t : List ℕ) (s x : ℕ) → Type 0
Ended m q start cone t s x = Laned m s (λ i o. on_path m q start cone t (step_in m s i o ∷ [])) x
