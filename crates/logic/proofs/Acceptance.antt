-- A test that computes, and gives what an accepted model promises: where an action is enabled its outcomes have weights that sum to D,
-- name it, lead to states by weights of at least 1 and to different ones, and fulfil its postconditions; an action that is not enabled has none;
-- postconditions contradict in pairs; no action has the number of the silent move.
use Prim.Native.Nat.{ℕ, ◌<◌, ◌≤◌}
use mathlib.Core.Path.{◌≡◌, refl, sym, ap, subst, ◌∙◌}
use mathlib.Core.Bool.{Bool, true, false, not, ◌&&◌, ◌||◌, false≢true}
use mathlib.Core.List.{List, [], ◌∷◌, Memᴰ}
use lib.Dec.{eqb, leb, ltb}
use lib.ListN.{length, get_or, get_or-eq_default}
use borrow.Author.Tests.{leb-true, ltb-false}
use Rattle.logic.specs.Lists.{all, any, every, is_empty}
use Rattle.logic.specs.Model.{Literals, Model, Step, true_of, contradict, mask, silent, enabled_actions, stored, outcomes}
use Rattle.logic.specs.Quantity.{naturals, sum}
use Rattle.logic.specs.Order.{Rising, nothing, first}
use Rattle.logic.specs.Plan.{Match, ends, pair}
use Rattle.logic.specs.Accepted.{posts_of, Accepted}
use Rattle.logic.proofs.Tests.{and_both, eqb_eq, eq_eqb, ltb_lt, all_at, any_some, every_at}
use Rattle.logic.proofs.SilentMove.{action_below}
use Rattle.logic.proofs.AcceptedByActions.{Keeps, by_actions}

unfoldable pub step_ok : Model → ℕ → Step → Bool
step_ok m a o = eqb o.choice a && (ltb o.target (length m.states) && ltb 0 o.weight)

unfoldable pub targets_differ : List Step → Bool
targets_differ [] = true
targets_differ (o ∷ l) = all (λ p. not (eqb o.target p.target)) l && targets_differ l

-- Each postcondition is true in the target of its own outcome.
unfoldable pub fulfilled : Model → List Literals → List Step → Bool
fulfilled m [] [] = true
fulfilled m [] (o ∷ l) = false
fulfilled m (k ∷ ks) [] = false
fulfilled m (k ∷ ks) (o ∷ l) = true_of k (mask m o.target) && fulfilled m ks l

unfoldable pub all_contradict : List Literals → Bool
all_contradict [] = true
all_contradict (k ∷ ks) = all (contradict k) ks && all_contradict ks

unfoldable pub choice_ok : Model → ℕ → ℕ → Bool
choice_ok m s a =
    eqb (sum naturals (λ o. o.weight) (outcomes m s a)) m.denominator
    && (all (step_ok m a) (outcomes m s a) && (targets_differ (outcomes m s a) && fulfilled m (posts_of m a) (outcomes m s a)))

-- The row of a state has outcomes for no action that is not enabled.
unfoldable pub row_ok : Model → ℕ → Bool
row_ok m s = every (length (get_or m.rows s [])) (λ a. any (eqb a) (enabled_actions m s) || is_empty (stored m s a))

unfoldable pub state_ok : Model → ℕ → Bool
state_ok m s = all (choice_ok m s) (enabled_actions m s) && row_ok m s

unfoldable pub states_ok : Model → Bool
states_ok m =
    (ltb 0 m.denominator && leb (length m.actions) silent)
    && every (length m.states) (state_ok m)
    && every (length m.actions) (λ a. all_contradict (posts_of m a))

rising_targets : (l : List Step) → targets_differ l ≡ true → Rising (λ x y. x.target ≡ y.target → ⊥) l
unfolding targets_differ
rising_targets [] e = nothing
rising_targets (o ∷ l) e =
    let w = and_both (all (λ p. not (eqb o.target p.target)) l) (targets_differ l) e in
    first (λ p i q. false≢true (sym (ap not (eq_eqb q)) ∙ all_at _ l w.0 i)) (rising_targets l w.1)

matched : (m : Model) (ks : List Literals) (l : List Step) → fulfilled m ks l ≡ true → Match (λ k o. true_of k (mask m o.target) ≡ true) ks l
unfolding fulfilled
matched m [] [] e = ends
matched m [] (o ∷ l) e = absurd (false≢true e)
matched m (k ∷ ks) [] e = absurd (false≢true e)
matched m (k ∷ ks) (o ∷ l) e = let w = and_both (true_of k (mask m o.target)) _ e in pair w.0 (matched m ks l w.1)

rising_posts : (ks : List Literals) → all_contradict ks ≡ true → Rising (λ k l. contradict k l ≡ true) ks
unfolding all_contradict
rising_posts [] e = nothing
rising_posts (k ∷ ks) e =
    let w = and_both (all (contradict k) ks) (all_contradict ks) e in
    first (λ l i. all_at (contradict k) ks w.0 i) (rising_posts ks w.1)

no_steps : (l : List Step) → is_empty l ≡ true → l ≡ []
unfolding is_empty
no_steps [] e = refl
no_steps (o ∷ l) e = absurd (false≢true e)

module _ (m : Model) (passed : states_ok m ≡ true) where
  parts : (ltb 0 m.denominator ≡ true) × (leb (length m.actions) silent ≡ true)
      × (every (length m.states) (state_ok m) ≡ true) × (every (length m.actions) (λ a. all_contradict (posts_of m a)) ≡ true)
  unfolding states_ok
  parts =
      let w = and_both ((ltb 0 m.denominator && leb (length m.actions) silent) && every (length m.states) (state_ok m)) _ passed in
      let u = and_both (ltb 0 m.denominator && leb (length m.actions) silent) _ w.0 in
      let v = and_both (ltb 0 m.denominator) _ u.0 in
      (v.0, v.1, u.1, w.1)

  numbered : length m.actions ≤ silent
  numbered = leb-true (length m.actions) silent parts.1

  posts_rising : (a : ℕ) → a < length m.actions → Rising (λ k l. contradict k l ≡ true) (posts_of m a)
  posts_rising a k = rising_posts (posts_of m a) (every_at (λ a. all_contradict (posts_of m a)) (length m.actions) parts.3 k)

  at_state : (s : ℕ) → s < length m.states → (all (choice_ok m s) (enabled_actions m s) ≡ true) × (row_ok m s ≡ true)
  unfolding state_ok
  at_state s k = and_both (all (choice_ok m s) (enabled_actions m s)) _ (every_at (state_ok m) (length m.states) parts.2 k)

  -- An action that is not enabled has no outcomes: its row ends before it, or passed the test.
  none_there : (s a : ℕ) → s < length m.states → (Memᴰ a (enabled_actions m s) → ⊥) → stored m s a ≡ []
  unfolding row_ok stored
  none_there s a k h = by (ltb a (length (get_or m.rows s []))) refl
    where
      tested : (t : Bool) → any (eqb a) (enabled_actions m s) ≡ t → (t || is_empty (stored m s a)) ≡ true → stored m s a ≡ []
      tested true i e = let w = any_some (eqb a) (enabled_actions m s) i in absurd (h (subst (λ c. Memᴰ c (enabled_actions m s)) (sym (eqb_eq a w.0 w.2)) w.1))
      tested false i e = no_steps (stored m s a) e

      by : (t : Bool) → ltb a (length (get_or m.rows s [])) ≡ t → stored m s a ≡ []
      by true e =
          tested (any (eqb a) (enabled_actions m s)) refl
          (every_at (λ a. any (eqb a) (enabled_actions m s) || is_empty (stored m s a)) (length (get_or m.rows s [])) (at_state s k).1 (ltb_lt a (length (get_or m.rows s [])) e))
      by false e = get_or-eq_default (get_or m.rows s []) [] (ltb-false a (length (get_or m.rows s [])) e)

  module _ (s a : ℕ) (k : s < length m.states) (i : Memᴰ a (enabled_actions m s)) where
    at_choice : (sum naturals (λ o. o.weight) (outcomes m s a) ≡ m.denominator)
        × (all (step_ok m a) (outcomes m s a) ≡ true) × (targets_differ (outcomes m s a) ≡ true) × (fulfilled m (posts_of m a) (outcomes m s a) ≡ true)
    unfolding choice_ok
    at_choice =
        let e = all_at (choice_ok m s) (enabled_actions m s) (at_state s k).0 i in
        let w = and_both (eqb (sum naturals (λ o. o.weight) (outcomes m s a)) m.denominator) _ e in
        let u = and_both (all (step_ok m a) (outcomes m s a)) _ w.1 in
        let v = and_both (targets_differ (outcomes m s a)) _ u.1 in
        (eqb_eq _ _ w.0, u.0, v.0, v.1)

    at_step : (o : Step) → Memᴰ o (outcomes m s a) → (o.choice ≡ a) × (o.target < length m.states) × (0 < o.weight)
    unfolding step_ok
    at_step o j =
        let w = and_both (eqb o.choice a) _ (all_at (step_ok m a) (outcomes m s a) at_choice.1 j) in
        let u = and_both (ltb o.target (length m.states)) _ w.1 in
        (eqb_eq _ _ w.0, ltb_lt _ _ u.0, ltb_lt _ _ u.1)

    keeps : Keeps m s a
    keeps =
        record {
          fulfils = matched m (posts_of m a) (outcomes m s a) at_choice.3;
          contrary = posts_rising a (action_below m s i);
          apart = rising_targets _ at_choice.2;
          sums = at_choice.0;
          weighs = λ o j. (at_step o j).2;
          inside = λ o j. (at_step o j).1;
          named = λ o j. (at_step o j).0;
        }

  pub passed_accepted : Accepted m
  passed_accepted =
      by_actions m
      (record {
        divides = ltb_lt 0 m.denominator parts.0;
        numbered = numbered;
        contradicts = posts_rising;
        unused = none_there;
        keeps = keeps;
      })
