-- The best plan by its first step: the first_best of the enabled choices, with the best plans below its outcomes.
use Prim.Native.Nat.{ℕ, suc}
use mathlib.Core.Path.{◌≡◌, refl, sym, ap, ◌∙◌}
use mathlib.Core.Bool.{Bool}
use mathlib.Core.List.{List, [], ◌∷◌, ◌++◌, map, flat_map, append_assoc}
use Rattle.logic.specs.Model.{Model, Step, enabled, outcomes}
use Rattle.logic.specs.promises.Orders.{weights, order}
use Rattle.logic.specs.Plan.{choices}
use Rattle.logic.specs.promises.Recursion.{best_choice, greatest, best_plan}
use Rattle.best_plan.specs.promises.Greatest.{best_choices, worth, below}

flat_map-of_map : {A B C : Type 0} (g : B → List C) (h : A → B) (l : List A) → flat_map g (map h l) ≡ flat_map (λ x. g (h x)) l
unfolding flat_map
flat_map-of_map g h [] = refl
flat_map-of_map g h (x ∷ l) = ap (λ z. g (h x) ++ z) (flat_map-of_map g h l)

pub flat_append : {A B : Type 0} (g : A → List B) (l r : List A) → flat_map g (l ++ r) ≡ flat_map g l ++ flat_map g r
unfolding flat_map
flat_append g [] r = refl
flat_append g (x ∷ l) r = ap (λ z. g x ++ z) (flat_append g l r) ∙ sym (append_assoc (g x) (flat_map g l) (flat_map g r))

module _ (least : Bool) (M : Model) (k s : ℕ) (f : List Step → ℕ) where
  -- The total of the choice a, and the choices of its plan, with the best plans below.
  abbrev pub worth_of : ℕ → ℕ
  worth_of a = worth least M k f (outcomes M s a)

  abbrev pub plan_from : ℕ → List ℕ
  plan_from a = a ∷ below least M k f (outcomes M s a)

  abbrev pub best_of : List ℕ → ℕ
  best_of l = best_choice (weights (order least)) worth_of l

  pub greatest_step : greatest (weights (order least)) M (suc k) s f ≡ worth_of (best_of (enabled M s))
  unfolding greatest worth
  greatest_step = refl

  pub choices_step : best_choices least M (suc k) s f ≡ plan_from (best_of (enabled M s))
  unfolding best_choices best_plan choices below worth
  choices_step =
      let a : ℕ = best_of (enabled M s) in
      ap (λ z. a ∷ z) (flat_map-of_map (choices k) (λ o. best_plan (weights (order least)) M k o.target (λ r. f (o ∷ r))) (outcomes M s a))
