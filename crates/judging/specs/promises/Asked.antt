-- What a judge is given: a question for a model, both prepared, with the table made for them.
use Rattle.std.specs.Prelude.{ℕ, ◌≡◌, List}
use Rattle.logic.specs.promises.Refusal.{refusal}
use Rattle.logic.specs.Limits.{limits}
use Rattle.blocks.specs.Bytes.{Bytes}
use Rattle.models.specs.Layout.{state_count, action_count, prop_count}
use Rattle.prepared_model.specs.promises.Rows.{model_in, Prepared}
use Rattle.questions.specs.Layout.{formulas_of}
use Rattle.prepared_question.specs.promises.Nodes.{Nodes}
use Rattle.limits.specs.promises.Counted.{Counted}
use Rattle.relevance.specs.promises.Need.{Given}

-- What is judged: a question for a model, both prepared, within the limits, with the numbers of plans where they are counted.
pub record Asked (m q : Bytes) (counts : List ℕ) : Type 0 where
  pub given : Given m q
  pub counted : Counted m q counts
  pub within : refusal (limits (model_in m) (formulas_of q)) ≡ 0

-- A question for a model, both prepared, within the limits.
pub record Served (m q : Bytes) : Type 0 where
  pub prepared : Prepared m
  pub nodes : Nodes (state_count m) (action_count m) (prop_count m) q
  pub within : refusal (limits (model_in m) (formulas_of q)) ≡ 0
