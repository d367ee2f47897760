-- How large totals are, and how many choices plans have: the weights of all paths of a plan sum to a power of the denominator, and a
-- choice has at most four outcomes.
use Prim.Native.Nat.{ℕ, zero, suc, ◌*◌, ◌^◌, ◌≤◌, ◌<◌, zero-le}
use native.Mathlib.Nat.{add-le-add, mul-le-mul_left, mul-le-mul_right, le_refl, le_trans, suc-mul}
use native.Mathlib.Omega.{arith}
use native.Mathlib.Decide.{ℕ_discrete, dec_lt}
use mathlib.Core.Path.{◌≡◌, sym, ap, subst, ◌∙◌}
use mathlib.Core.Bool.{Bool, true, false, cond, ◌&&◌}
use lib.Dec.{eqb}
use mathlib.Core.Logic.{◌⊎◌, inl, inr, ⊎_elim}
use mathlib.Core.List.{List, [], ◌∷◌, flat_map}
use lib.ListN.{length, get_or, length-append, get_or-eq_default}
use Rattle.logic.specs.Lists.{tabulate}
use Rattle.logic.specs.Model.{Model, Step, silent, silent_step, deadlocked, enabled, stored, outcomes}
use Rattle.logic.specs.Quantity.{naturals, sum}
use Rattle.logic.specs.promises.Orders.{weights, order}
use Rattle.logic.specs.Plan.{paths, weight, choices}
use Rattle.logic.specs.promises.Recursion.{greatest}
use Rattle.logic.specs.Accepted.{Accepted}
use Rattle.logic.specs.Bound.{total}
use Rattle.logic.proofs.Tests.{length_tabulate}
use Rattle.logic.proofs.PathWeights.{total_ones}
use Rattle.logic.proofs.Recursion.{greatest_is_maximum}
use Rattle.models.specs.Layout.{state_count, action_count}
use Rattle.prepared_model.specs.promises.Rows.{choices_in, choice_in, outcomes_in, step_in, row_in, enabled_in, place_of, model_in, Prepared}
use Rattle.prepared_model.proofs.ReadByPlace.{states_are, denominator_is, none_else}
use Rattle.bounds.proofs.Powers.{power_le}
use Rattle.logic.specs.promises.MostChoices.{most_choices}
use Rattle.best_plan.specs.promises.Greatest.{best_choices, below}
use Rattle.logic.proofs.FirstBest.{ordered, additive}
use Rattle.best_plan.proofs.BestByFirstStep.{best_of, plan_from, choices_step}

-- ---- totals

module _ {A : Type 0} where
  sum_le : (le : ℕ → ℕ → Bool) (f g : A → ℕ) (l : List A) → ((a : A) → f a ≤ g a) → sum (weights le) f l ≤ sum naturals g l
  unfolding sum
  sum_le le f g [] h = le_refl 0
  sum_le le f g (x ∷ l) h = add-le-add (h x) (sum_le le f g l h)

-- Of values of at most 1 the greatest total, and the least, is at most the denominator to the number of steps.
pub greatest_small : (least : Bool) (M : Model) → Accepted M → (n s : ℕ) (f : List Step → ℕ) → s < length M.states → ((r : List Step) → f r ≤ 1)
    → greatest (weights (order least)) M n s f ≤ M.denominator ^ n
unfolding total
greatest_small least M accepted n s f k h =
    let w = (greatest_is_maximum (weights (order least)) (additive (order least)) (ordered least) M accepted n s f k).0 in
    subst (λ z. z ≤ M.denominator ^ n) w.2
    (le_trans (sum_le (order least) (λ r. weight r * f r) (λ r. weight r * 1) (paths M n s w.0) (λ r. mul-le-mul_left (weight r) (h r)))
    (omega (arith, total_ones M accepted n s k w.0 w.1)))

module _ {m : List ℕ} (w : Prepared m) where
  pub value_small : (least : Bool) (k n s : ℕ) (f : List Step → ℕ) → s < state_count m → k ≤ n → ((r : List Step) → f r ≤ 1)
      → greatest (weights (order least)) (model_in m) k s f ≤ 100 ^ n
  value_small least k n s f h l g =
      le_trans (greatest_small least (model_in m) w.accepted k s f (rw (states_are m) h) g)
      (power_le (model_in m).denominator k n (rw (denominator_is m) w.parts) l)

  -- ---- choices

  -- The place of the choice a, if it has one.
  place_in : (s a n : ℕ) → ((i : ℕ) × (i < n) × (choice_in m s i ≡ a)) ⊎ ((i : ℕ) → i < n → choice_in m s i ≡ a → ⊥)
  place_in s a zero = inr (λ i l e. absurd (omega arith))
  place_in s a (suc n) = ⊎_elim (λ x. inl (x.0, omega (arith, x.1), x.2)) (λ f. go f (ℕ_discrete (choice_in m s n) a)) (place_in s a n)
    where
      go : ((i : ℕ) → i < n → choice_in m s i ≡ a → ⊥) → Dec (choice_in m s n ≡ a)
          → ((i : ℕ) × (i < suc n) × (choice_in m s i ≡ a)) ⊎ ((i : ℕ) → i < suc n → choice_in m s i ≡ a → ⊥)
      go f (yes e) = inl (n, omega arith, e)
      go f (no g) = inr (λ i l e. last i e (ℕ_discrete i n) l)
        where
          last : (i : ℕ) → choice_in m s i ≡ a → Dec (i ≡ n) → i < suc n → ⊥
          last i e (yes z) l = g (ap (choice_in m s) (sym z) ∙ e)
          last i e (no z) l = f i (omega arith) e

  -- Past the states the model gives nothing.
  none_past : (s a : ℕ) → state_count m ≤ s → stored (model_in m) s a ≡ []
  unfolding stored model_in
  none_past s a h =
      let rows : List (List (List Step)) = tabulate (state_count m) (λ s. tabulate (action_count m) (λ a. cond (enabled_in m s a) (row_in m s (place_of m s a)) [])) in
      ap (λ r. get_or r a []) (get_or-eq_default rows [] (omega (arith, length_tabulate (λ s. tabulate (action_count m) (λ a. cond (enabled_in m s a) (row_in m s (place_of m s a)) [])) (state_count m))))
      ∙ get_or-eq_default [] [] {n = a} zero-le

  outcomes_few : (s a : ℕ) → length (outcomes (model_in m) s a) ≤ 4
  unfolding outcomes
  outcomes_few s a = go (dec_lt s (state_count m))
    where
      past : (t : Bool) → stored (model_in m) s a ≡ [] → length (cond t (silent_step (model_in m) s ∷ []) (stored (model_in m) s a)) ≤ 4
      past true e = omega arith
      past false e = rw e zero-le

      go : Dec (s < state_count m) → length (outcomes (model_in m) s a) ≤ 4
      go (no h) = past (deadlocked (model_in m) s && eqb a silent) (none_past s a (omega arith))
      go (yes h) =
          ⊎_elim
          (λ x.
          let r : outcomes (model_in m) s a ≡ row_in m s x.0 = ap (outcomes (model_in m) s) (sym x.2) ∙ w.rows s x.0 h x.1 in
          rw (r, length_tabulate (step_in m s x.0) (outcomes_in m s x.0)) (w.few_outcomes s x.0 h x.1))
          (λ f. rw (none_else w s h a f) zero-le)
          (place_in s a (choices_in m s))

  module _ (least : Bool) where
    below_most : (k : ℕ) (f : List Step → ℕ) → ((s : ℕ) (g : List Step → ℕ) → length (best_choices least (model_in m) k s g) ≤ most_choices k)
        → (l : List Step) → length (below least (model_in m) k f l) ≤ length l * most_choices k
    unfolding below flat_map
    below_most k f h [] = omega arith
    below_most k f h (o ∷ l) =
        let x : List ℕ = best_choices least (model_in m) k o.target (λ r. f (o ∷ r)) in
        omega (arith, h o.target (λ r. f (o ∷ r)), below_most k f h l, suc-mul (length l) (most_choices k), length-append x (below least (model_in m) k f l))

    pub choices_few : (k s : ℕ) (f : List Step → ℕ) → length (best_choices least (model_in m) k s f) ≤ most_choices k
    unfolding best_choices choices most_choices
    choices_few zero s f = le_refl 0
    choices_few (suc k) s f =
        let M : Model = model_in m in
        let l : List Step = outcomes M s (best_of least M k s f (enabled M s)) in
        omega (arith, ap length (choices_step least M k s f), below_most k f (choices_few k) l, mul-le-mul_right {m = length l} {n = 4} (most_choices k) (outcomes_few s _))

    pub below_few : (k : ℕ) (f : List Step → ℕ) (l : List Step) → length (below least (model_in m) k f l) ≤ length l * most_choices k
    below_few k f l = below_most k f (choices_few k) l

    pub plan_few : (k s : ℕ) (f : List Step → ℕ) (a : ℕ) → length (plan_from least (model_in m) k s f a) ≤ most_choices (suc k)
    unfolding most_choices
    plan_few k s f a =
        let l : List Step = outcomes (model_in m) s a in
        omega (arith, below_few k f l, mul-le-mul_right {m = length l} {n = 4} (most_choices k) (outcomes_few s a))
