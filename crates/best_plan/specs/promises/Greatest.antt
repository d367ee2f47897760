-- What a search looks for: of the plans for the steps left after a trail, the first of those of greatest total, or of least.
use Rattle.std.specs.Prelude.{ℕ, ◌+◌, ◌*◌, ◌^◌, ◌≤◌, ◌≡◌, Bool, cond, take}
use mathlib.Core.List.{List, ◌∷◌, flat_map}
use Rattle.logic.specs.Model.{Model, Step}
use Rattle.logic.specs.Quantity.{sum}
use Rattle.logic.specs.promises.Orders.{weights, order}
use Rattle.logic.specs.Plan.{choices}
use Rattle.logic.specs.promises.Recursion.{greatest, best_plan}
use Rattle.logic.specs.promises.Total.{value_of}
use Rattle.blocks.specs.Bytes.{Bytes}
use Rattle.prepared_model.specs.promises.Rows.{model_in}
use Rattle.prepared_question.specs.promises.Nodes.{formula}
use Rattle.evaluation.specs.promises.Reached.{root_of}
use Rattle.best_plan.specs.declared.Found.{Found}

module _ (least : Bool) (M : Model) (k : ℕ) where
  -- The choices of the best plan of k steps; f is the value of its steps.
  unfoldable pub best_choices : ℕ → (List Step → ℕ) → List ℕ
  best_choices s f = choices k (best_plan (weights (order least)) M k s f)

  module _ (f : List Step → ℕ) where
    -- The best totals below some outcomes of a choice, weighed and summed, and the choices of the best plans there.
    unfoldable pub worth : List Step → ℕ
    worth l = sum (weights (order least)) (λ o. o.weight * greatest (weights (order least)) M k o.target (λ r. f (o ∷ r))) l

    unfoldable pub below : List Step → List ℕ
    below l = flat_map (λ o. best_choices o.target (λ r. f (o ∷ r))) l

-- The best total that a choice can still reach: its outcomes walked so far total `sum`; those left weigh `rest`, and the best total below one of them
-- is anything from 0 to D to the k, the weights of k steps.
unfoldable pub best_left : (least : Bool) (D k sum rest : ℕ) → ℕ
best_left least D k sum rest = cond least sum (sum + rest * D ^ k)

-- What is found for the condition at the cone's root: the greatest total of d steps, or the least, and the choices of the first plan that has it.
pub record Finds (least : Bool) (m q : Bytes) (start : ℕ) (cone : List ℕ) (d : ℕ) (after : List ℕ) (r : Found) : Type 0 where
  pub value : r.value ≡ greatest (weights (order least)) (model_in m) d start (value_of (model_in m) (formula q (root_of cone)) start)
  pub chosen : take r.count after ≡ choices d (best_plan (weights (order least)) (model_in m) d start (value_of (model_in m) (formula q (root_of cone)) start))
  pub few : r.count ≤ 1365
