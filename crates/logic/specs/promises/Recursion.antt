-- The greatest total by recursion over the steps, and the plan of the first choices that reach it: what a search computes. That they are
-- the greatest over all plans, and the first plan in dictionary order that has it, is proved (`Recursion`).
use Rattle.std.specs.Prelude.{ℕ, zero, suc, cond, List, [], ◌∷◌, map}
use Rattle.logic.specs.Model.{Model, Step, enabled, outcomes}
use Rattle.logic.specs.Quantity.{Quantity, sum}
use Rattle.logic.specs.Plan.{Plan}

module _ (Q : Quantity) where
  -- The first of the greatest among x and a list.
  unfoldable pub first_best : {A : Type 0} → (A → Q.Value) → A → List A → A
  first_best v x [] = x
  first_best v x (y ∷ l) = let b = first_best v y l in cond (Q.at_most (v b) (v x)) x b

  -- The first_best choice of a list; 0 if it is empty.
  unfoldable pub best_choice : (ℕ → Q.Value) → List ℕ → ℕ
  best_choice v [] = 0
  best_choice v (a ∷ l) = first_best v a l

  module _ (m : Model) where
    -- f is the value of the steps still to come; those taken stand in it.
    unfoldable pub greatest : (n s : ℕ) → (List Step → Q.Value) → Q.Value
    greatest zero s f = f []
    greatest (suc n) s f =
        let v : ℕ → Q.Value = λ a. sum Q (λ o. Q.times o.weight (greatest n o.target (λ r. f (o ∷ r)))) (outcomes m s a) in
        v (best_choice v (enabled m s))

    unfoldable pub best_plan : (n s : ℕ) → (List Step → Q.Value) → Plan n
    best_plan zero s f = tt
    best_plan (suc n) s f =
        let v : ℕ → Q.Value = λ a. sum Q (λ o. Q.times o.weight (greatest n o.target (λ r. f (o ∷ r)))) (outcomes m s a) in
        let a : ℕ = best_choice v (enabled m s) in
        (a, map (λ o. best_plan n o.target (λ r. f (o ∷ r))) (outcomes m s a))
