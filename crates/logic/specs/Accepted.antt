-- What an accepted model promises: Definition 1 of the PLBP paper in whole numbers, each of its conditions, and that postconditions
-- contradict. The "do nothing" action that the paper adds, the silent move, is among the choices. (The ranges of document 01 are grounds 4
-- and 5.)
use Rattle.std.specs.Prelude.{ℕ, ◌<◌, ◌≤◌, ◌≡◌, true, cond, eqb, length, get_or}
use mathlib.Core.List.{List, [], ◌∷◌, Memᴰ}
use Rattle.logic.specs.Model.{Literals, Model, Step, always, no_action, true_of, contradict, mask, silent, enabled, outcomes}
use Rattle.logic.specs.Quantity.{naturals, sum}
use Rattle.logic.specs.Plan.{Match}
use Rattle.logic.specs.Order.{Rising}

-- The postconditions of a choice: those of the action; the silent move has one, which is always true.
abbrev pub posts_of : Model → ℕ → List Literals
posts_of m a = cond (eqb a silent) (always ∷ []) (get_or m.actions a no_action).posts

-- The state s and the choice a are a state of the model and a choice there: an enabled action, or the silent move.
pub record Executable (m : Model) (s a : ℕ) : Type 0 where
  pub state : s < length m.states
  pub choice : Memᴰ a (enabled m s)

pub record Accepted (m : Model) : Type 0 where
  -- (i) every state has a choice (it does in any model, by the silent move: `SilentMove.some_choice`)
  pub some_choice : (s : ℕ) → s < length m.states → (a : ℕ) × (l : List ℕ) × (enabled m s ≡ a ∷ l)
  -- (ii) a choice leads somewhere only where it is enabled, an action where its precondition is true (`enabled_actions`)
  pub defined : (s a : ℕ) → s < length m.states → (Memᴰ a (enabled m s) → ⊥) → outcomes m s a ≡ []
  -- (iii) a choice has one outcome for each postcondition, in their order, in a target where that postcondition is true;
  pub fulfils : {s a : ℕ} → Executable m s a → Match (λ k o. true_of k (mask m o.target) ≡ true) (posts_of m a) (outcomes m s a)
  -- (iii.i) in a target one postcondition is true and no other,
  pub one_post : {s a : ℕ} → Executable m s a → (o : Step) → Memᴰ o (outcomes m s a) → (k l : Literals) → Memᴰ k (posts_of m a)
      → Memᴰ l (posts_of m a) → true_of k (mask m o.target) ≡ true → true_of l (mask m o.target) ≡ true → k ≡ l
  -- (iii.ii) a postcondition is true in one target and in no other,
  pub one_target : {s a : ℕ} → Executable m s a → (k : Literals) → Memᴰ k (posts_of m a) → (x y : Step) → Memᴰ x (outcomes m s a)
      → Memᴰ y (outcomes m s a) → true_of k (mask m x.target) ≡ true → true_of k (mask m y.target) ≡ true → x ≡ y
  -- since any two postconditions contradict
  pub contradicts : (a : ℕ) → a < length m.actions → Rising (λ k l. contradict k l ≡ true) (posts_of m a)
  -- so that different outcomes of a choice lead to different states
  pub apart : {s a : ℕ} → Executable m s a → Rising (λ x y. x.target ≡ y.target → ⊥) (outcomes m s a)
  -- no action has the number of the silent move
  pub numbered : length m.actions ≤ silent
  -- chances are weights over D: the weights of a choice's outcomes are at least 1 and sum to D
  pub divides : 0 < m.denominator
  pub sums : {s a : ℕ} → Executable m s a → sum naturals (λ o. o.weight) (outcomes m s a) ≡ m.denominator
  pub weighs : {s a : ℕ} → Executable m s a → (o : Step) → Memᴰ o (outcomes m s a) → 0 < o.weight
  -- outcomes lead to states of the model, and are outcomes of this choice
  pub inside : {s a : ℕ} → Executable m s a → (o : Step) → Memᴰ o (outcomes m s a) → o.target < length m.states
  pub named : {s a : ℕ} → Executable m s a → (o : Step) → Memᴰ o (outcomes m s a) → o.choice ≡ a
