-- What those who read a prepared model use of its law: the model's sizes, and the choices and outcomes of a state by their places.
use Prim.Native.Nat.{ℕ, zero, suc, ◌/◌, ◌%◌, ◌^◌, ◌<◌}
use native.Mathlib.Omega.{arith}
use mathlib.Core.Path.{◌≡◌, sym, ap, subst, ◌∙◌}
use mathlib.Core.List.{List, [], Memᴰ}
use lib.Dec.{eqb}
use lib.ListN.{length}
use Rattle.logic.specs.Lists.{tabulate}
use Rattle.logic.specs.Model.{Step, mask, prop_in, enabled, outcomes}
use Rattle.logic.specs.Accepted.{Executable}
use Rattle.logic.specs.Quantity.{naturals, sum}
use Rattle.logic.specs.promises.Raised.{Modest, ModestRewards}
use Rattle.logic.proofs.Tests.{length_tabulate, counted_in}
use Rattle.logic.proofs.Members.{in_map}
use Rattle.blocks.specs.Block.{sum_below}
use Rattle.models.specs.Layout.{state_count, denominator_of, state_mask}
use Rattle.models.proofs.ModelOfBytes.{states_held, denominator_held, tabulate_member, sum_tabulate, mask_held}
use Rattle.prepared_model.specs.promises.Rows.{choices_in, choice_in, outcomes_in, step_in, model_in, Prepared}

-- ---- the head

module _ (m : List ℕ) where
  pub states_are : length (model_in m).states ≡ state_count m
  unfolding model_in
  states_are = states_held m

  pub denominator_is : (model_in m).denominator ≡ denominator_of m
  unfolding model_in
  denominator_is = denominator_held m

  pub prop_is : (s i : ℕ) → s < state_count m → eqb (state_mask m s / 2 ^ i % 2) 1 ≡ prop_in (model_in m) s i
  unfolding prop_in model_in mask
  prop_is s i h = ap (λ v. eqb (v / 2 ^ i % 2) 1) (sym (mask_held m s h))

-- ---- the rows

pub tabulated_in : {A : Type 0} (f : ℕ → A) (n : ℕ) {i : ℕ} → i < n → Memᴰ (f i) (tabulate n f)
unfolding tabulate
tabulated_in f n h = in_map f (counted_in 0 n (omega arith) (omega arith))

module _ {m : List ℕ} (w : Prepared m) (s : ℕ) (h : s < state_count m) where
  pub choices_many : length (enabled (model_in m) s) ≡ choices_in m s
  choices_many = ap length (w.choices s h) ∙ length_tabulate (choice_in m s) (choices_in m s)

  pub some_choice : 0 < choices_in m s
  some_choice = let c = w.accepted.some_choice s (rw (states_are m) h) in subst (λ n. 0 < n) (sym (ap length c.2) ∙ choices_many) (omega arith)

  module _ (i : ℕ) (g : i < choices_in m s) where
    pub choice_enabled : Memᴰ (choice_in m s i) (enabled (model_in m) s)
    choice_enabled = subst (Memᴰ (choice_in m s i)) (sym (w.choices s h)) (tabulated_in (choice_in m s) (choices_in m s) g)

    pub executable : Executable (model_in m) s (choice_in m s i)
    executable = record { state = rw (states_are m) h; choice = choice_enabled }

    -- The weights of a choice's outcomes sum to the denominator, so that it has some.
    pub weights_sum : sum_below (outcomes_in m s i) (λ o. (step_in m s i o).weight) ≡ denominator_of m
    weights_sum =
        sym (sum_tabulate (λ o. o.weight) (step_in m s i) (outcomes_in m s i))
        ∙ ap (sum naturals (λ o. o.weight)) (sym (w.rows s i h g))
        ∙ w.accepted.sums executable
        ∙ denominator_is m

    pub some_outcome : 0 < outcomes_in m s i
    unfolding sum_below
    some_outcome = go (outcomes_in m s i) weights_sum
      where
        go : (n : ℕ) → sum_below n (λ o. (step_in m s i o).weight) ≡ denominator_of m → 0 < n
        go zero e = absurd (omega (arith, denominator_is m, w.accepted.divides))
        go (suc n) e = omega arith

  -- A choice that stands at no place has no outcomes.
  pub none_else : (a : ℕ) → ((i : ℕ) → i < choices_in m s → choice_in m s i ≡ a → ⊥) → outcomes (model_in m) s a ≡ []
  none_else a f =
      w.accepted.defined s a (rw (states_are m) h)
      (λ e. let x = tabulate_member (choice_in m s) (choices_in m s) (subst (Memᴰ a) (w.choices s h) e) in f x.0 x.1 (sym x.2))

-- All rewards of a prepared model are from -1000 to 1000.
pub modest_rewards : {m : List ℕ} → Prepared m → ModestRewards (model_in m)
modest_rewards {m} w =
    record {
      modest = λ {s} {a} x o i.
          let h : s < state_count m = subst (λ k. s < k) (states_are m) x.state in
          let c = tabulate_member (choice_in m s) (choices_in m s) (subst (Memᴰ a) (w.choices s h) x.choice) in
          let e : outcomes (model_in m) s a ≡ tabulate (outcomes_in m s c.0) (step_in m s c.0) = ap (outcomes (model_in m) s) c.2 ∙ w.rows s c.0 h c.1 in
          let y = tabulate_member (step_in m s c.0) (outcomes_in m s c.0) (subst (Memᴰ o) e i) in
          subst (λ (z : Step). Modest z.reward) (sym y.2) (w.raisable s c.0 y.0 h (c.1, y.1));
    }
