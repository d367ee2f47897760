-- A model is accepted if its actions keep what is promised wherever they are enabled: where the work is over, the silent move keeps it.
use Prim.Native.Nat.{ℕ, ◌<◌, ◌≤◌}
use native.Mathlib.Nat.{add-zero}
use mathlib.Core.Path.{◌≡◌, sym, ap, subst, ◌∙◌}
use mathlib.Core.Logic.{⊎_elim}
use mathlib.Core.Bool.{true, ◌&&◌}
use mathlib.Core.List.{[], ◌∷◌, Memᴰ}
use lib.Bits.{and_zero_r}
use lib.Dec.{eqb}
use lib.ListN.{length}
use Rattle.logic.specs.Model.{Model, Step, always, true_of, contradict, mask, silent, silent_step, enabled_actions, deadlocked, stored, outcomes}
use Rattle.logic.specs.Quantity.{naturals, sum}
use Rattle.logic.specs.Order.{Rising}
use Rattle.logic.specs.Plan.{Match, ends, pair}
use Rattle.logic.specs.Accepted.{posts_of, Accepted, Executable}
use Rattle.logic.proofs.Rising.{rising_one}
use Rattle.logic.proofs.Postconditions.{unique_post, unique_target}
use Rattle.logic.proofs.SilentMove.{silent_outcomes, one_outcome, choice_kind, some_choice, action_is_choice, no_choice_stored}

-- What is promised of the outcomes of a choice.
pub record Keeps (m : Model) (s a : ℕ) : Type 0 where
  pub fulfils : Match (λ k o. true_of k (mask m o.target) ≡ true) (posts_of m a) (outcomes m s a)
  pub contrary : Rising (λ k l. contradict k l ≡ true) (posts_of m a)
  pub apart : Rising (λ x y. x.target ≡ y.target → ⊥) (outcomes m s a)
  pub sums : sum naturals (λ o. o.weight) (outcomes m s a) ≡ m.denominator
  pub weighs : (o : Step) → Memᴰ o (outcomes m s a) → 0 < o.weight
  pub inside : (o : Step) → Memᴰ o (outcomes m s a) → o.target < length m.states
  pub named : (o : Step) → Memᴰ o (outcomes m s a) → o.choice ≡ a

-- What is promised of a model's actions.
pub record ByActions (m : Model) : Type 0 where
  pub divides : 0 < m.denominator
  pub numbered : length m.actions ≤ silent
  pub contradicts : (a : ℕ) → a < length m.actions → Rising (λ k l. contradict k l ≡ true) (posts_of m a)
  pub unused : (s a : ℕ) → s < length m.states → (Memᴰ a (enabled_actions m s) → ⊥) → stored m s a ≡ []
  pub keeps : (s a : ℕ) → s < length m.states → Memᴰ a (enabled_actions m s) → Keeps m s a

always_true : (v : ℕ) → true_of always v ≡ true
unfolding true_of
always_true v = ap (λ x. eqb x 0 && eqb x 0) (and_zero_r v)

module _ (m : Model) (s : ℕ) (d : 0 < m.denominator) (h : s < length m.states) (w : deadlocked m s ≡ true) where
  silent_keeps : Keeps m s silent
  unfolding sum
  silent_keeps =
      let e : outcomes m s silent ≡ silent_step m s ∷ [] = silent_outcomes m s w in
      record {
        fulfils = subst (Match (λ k o. true_of k (mask m o.target) ≡ true) (posts_of m silent)) (sym e) (pair (always_true (mask m s)) ends);
        contrary = rising_one _ _;
        apart = subst (Rising (λ x y. x.target ≡ y.target → ⊥)) (sym e) (rising_one _ _);
        sums = ap (sum naturals (λ o. o.weight)) e ∙ add-zero m.denominator;
        weighs = λ o i. subst (λ (x : Step). 0 < x.weight) (sym (one_outcome m s w i)) d;
        inside = λ o i. subst (λ (x : Step). x.target < length m.states) (sym (one_outcome m s w i)) h;
        named = λ o i. ap (λ x. x.choice) (one_outcome m s w i);
      }

module _ (m : Model) (g : ByActions m) where
  keeps : {s a : ℕ} → Executable m s a → Keeps m s a
  keeps {s} {a} x =
      ⊎_elim (g.keeps s a x.state) (λ w. subst (Keeps m s) (sym w.1) (silent_keeps m s g.divides x.state w.0)) (choice_kind m s x.choice)

  pub by_actions : Accepted m
  by_actions =
      record {
        some_choice = λ s h. some_choice m s;
        defined = λ s a h e. no_choice_stored m s a e ∙ g.unused s a h (λ i. e (action_is_choice m s i));
        fulfils = λ x. (keeps x).fulfils;
        one_post = λ x o i k l. unique_post m (keeps x).contrary o;
        one_target = λ x. unique_target m (keeps x).fulfils (keeps x).contrary;
        contradicts = g.contradicts;
        apart = λ x. (keeps x).apart;
        numbered = g.numbered;
        divides = g.divides;
        sums = λ x. (keeps x).sums;
        weighs = λ x. (keeps x).weighs;
        inside = λ x. (keeps x).inside;
        named = λ x. (keeps x).named;
      }
